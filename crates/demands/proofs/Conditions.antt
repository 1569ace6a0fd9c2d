-- What the lines of the answer table ask can be decided.
-- Assumes nothing.
use mathlib.Core.Path.{refl}
use mathlib.Core.Logic.Dec
use mathlib.Core.List.{List}
use Prim.Native.Nat.{ℕ, ◌/◌}
use native.Mathlib.Decide.{ℕ_discrete, dec_lt, map_dec}
use lib.ListN.{length}
use Rattle.registers.specs.Memory.{word_bits}
use Rattle.areas.proofs.Deciding.{dec_some_word}
use Rattle.frames.specs.declared.Act.{Act}
use Rattle.frames.specs.declared.Act.TheVariants.{Read, WriteOne, WriteRun}
use Rattle.frames.specs.declared.Width.{Width}
use Rattle.frames.specs.declared.Width.TheVariants.{Bit, Word}
use Rattle.std.specs.Prelude.{Option, Some, None}
use Rattle.frames.specs.Fields.{station_field, function_field, start_field, quantity_field, value_field, byte_count_field}
use Rattle.frames.specs.Functions.{function_of}
use Rattle.frames.specs.Limits.{quantity, most, bytes_for, request_length, on, off}
use Rattle.slave.specs.declared.Station.{Station}
use Rattle.slave.specs.Conditions.{AnotherStation, OfFound, OfFunction, WrongLength, QuantityZero, OutOfLimits, Writes, first_addressed, NamesNothing, AddressedBy, SomeAddressedWord}
use Rattle.slave.specs.Deciding.{SomeAddressed}
use Rattle.demands.proofs.Decidable.{dec_or, dec_act, dec_bit, dec_j_bus}

-- ---- the fields

pub dec_another_station : (station : Station) (frame : List ℕ) → Dec (AnotherStation station frame)
dec_another_station station frame =
    dec_or (ℕ_discrete (station_field frame) 0) (Dec.not (ℕ_discrete (station_field frame) station.own))

dec_of_found : (lookup : Option (Act × Width)) (Such : Act → Width → Type 0) → ((act : Act) (width : Width) → Dec (Such act width))
    → Dec (OfFound lookup Such)
dec_of_found (Some (act, width)) Such told = told act width
dec_of_found None Such told = no (λ none. none)

dec_of_function : (frame : List ℕ) {Such : Act → Width → Type 0} → ((act : Act) (width : Width) → Dec (Such act width))
    → Dec (OfFunction frame Such)
dec_of_function frame {Such} = dec_of_found (function_of (function_field frame)) Such

pub dec_wrong_length : (frame : List ℕ) → Dec (WrongLength frame)
dec_wrong_length frame = dec_of_function frame (λ act width. Dec.not (ℕ_discrete (length frame) (request_length act frame)))

pub dec_quantity_zero : (frame : List ℕ) → Dec (QuantityZero frame)
dec_quantity_zero frame = dec_of_function frame (λ act width. ℕ_discrete (quantity act frame) 0)

pub dec_out_of_limits : (frame : List ℕ) → Dec (OfFunction frame (OutOfLimits frame))
dec_out_of_limits frame = dec_of_function frame (λ act width.
    let counted = ℕ_discrete (byte_count_field frame) (bytes_for width (quantity_field frame)) in
    let value = dec_or (ℕ_discrete (value_field frame) on) (ℕ_discrete (value_field frame) off) in
    dec_or (dec_lt (most act width) (quantity act frame))
    (dec_or (Dec.and (dec_act act WriteRun) (Dec.not counted))
    (map_dec (λ all. (all.0, all.1.0, all.1.1)) (λ all. (all.0, (all.1, all.2)))
    (Dec.and (dec_act act WriteOne) (Dec.and (dec_bit width) (Dec.not value))))))

pub dec_writes : (frame : List ℕ) → Dec (Writes frame)
dec_writes frame = dec_of_function frame (λ act width. Dec.not (dec_act act Read))

pub dec_names_nothing : (station : Station) (frame : List ℕ) → Dec (NamesNothing station frame)
dec_names_nothing station frame = Dec.and (dec_j_bus station.counting) (ℕ_discrete (start_field frame) 0)

-- ---- the addressed words

dec_some : (width : Width) (first count : ℕ) (Such : ℕ → Type 0) → ((word : ℕ) → Dec (Such word))
    → Dec (SomeAddressed (AddressedBy width first count) Such)
dec_some Bit first count Such told =
    map_dec (λ (bit, among, such). (bit / word_bits, (bit, among, refl), such))
    (λ (word, (bit, among, e), such). (bit, among, rw e such))
    (dec_some_word first count (λ bit. Such (bit / word_bits)) (λ bit. told (bit / word_bits)))
dec_some Word first count Such told = dec_some_word first count Such told

pub dec_some_addressed : (station : Station) (frame : List ℕ) (Such : ℕ → Type 0) → ((word : ℕ) → Dec (Such word))
    → Dec (SomeAddressedWord station frame Such)
dec_some_addressed station frame Such told =
    dec_of_function frame (λ act width. dec_some width (first_addressed station frame) (quantity act frame) Such told)
