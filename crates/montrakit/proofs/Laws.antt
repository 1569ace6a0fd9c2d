-- The laws of the face, as specs/Laws.antt states them.
-- Assumes nothing.
use mathlib.Core.Path.{◌≡◌, ap, subst, ◌∙◌}
use mathlib.Core.Logic.{◌⊎◌, ◌≢◌, inl, inr}
use mathlib.Core.List.{List}
use Prim.Native.Nat.{ℕ, ◌≤◌}
use native.Mathlib.Omega.{arith}
use lib.ListN.{length}
use Rattle.areas.specs.declared.Area.{Area}
use Rattle.check_word.specs.Line.{Damaged}
use Rattle.frames.specs.Exceptions.{exception_length}
use Rattle.master.specs.declared.Request.{Request}
use Rattle.master.specs.declared.Reading.{Reading}
use Rattle.std.specs.Prelude.{Result, Ok, Err}
use Rattle.master.specs.declared.Refusal.{Refusal}
use Rattle.master.specs.Refusals.{RefusedBy, FieldsRefused}
use Rattle.master.specs.Reading.{ToldBy}
use Rattle.master.proofs.Laws as master-laws
use Rattle.demands.specs.Terms.{KeptBeyond}
use Rattle.areas.specs.Words.{area_words, OfNoList, StandFor}
use Rattle.montrakit.specs.Results.{result, kind_in, number_in, most_number, refused, silent, exception, reply, bad_argument, reading_result}
use Rattle.montrakit.specs.Responding.{bad_arguments, Bad, Respond}
use Rattle.montrakit.specs.Mastering.{request_of}
use Rattle.montrakit.specs.Laws as laws
use Rattle.areas.proofs.Words.{Why, of_no_list, list_or_why, one_list}
use Rattle.montrakit.proofs.Results.{kind_and_number, outcomes_apart, built_apart, readings_apart}
use Rattle.montrakit.proofs.Determined.{respond_determined, build_determined, read_determined}
use Rattle.montrakit.proofs.Left.{image_kept, buffer_kept, behind_an_exception, behind_a_reply, damage_told, broken_told}

pub RespondDetermined : laws.RespondDetermined
RespondDetermined = respond_determined

pub BuildDetermined : laws.BuildDetermined
BuildDetermined = build_determined

pub ReadDetermined : laws.ReadDetermined
ReadDetermined = read_determined

pub KindAndNumber : laws.KindAndNumber
KindAndNumber = kind_and_number

pub Apart : laws.Apart
Apart = record { outcomes = outcomes_apart; built = built_apart; readings = readings_apart }

pub OneList : laws.OneList
OneList = one_list

pub NoList : laws.NoList
NoList words = (λ none. reason none (list_or_why words), of_no_list words)
  where
    reason : ((areas : List Area) → area_words areas ≢ words) → ((areas : List Area) × (area_words areas ≡ words)) ⊎ Why words → Why words
    reason none (inl (areas, e)) = absurd (none areas e)
    reason none (inr why) = why

-- ---- by what is told

module _ (own counting state : ℕ) (words frame image buffer : List ℕ) (told : ℕ) (i r : List ℕ) where
  abbrev Responded : Type 0
  Responded = Respond own counting state words frame image buffer told i r

  -- a bad argument has a kind of its own
  bad_kind : Bad counting state image buffer told i r → kind_in told ≡ bad_argument
  bad_kind bad = ap kind_in bad.told_as ∙ (kind_and_number bad_argument bad.number (small bad.number bad.first)).0
    where
      small : (number : ℕ) → RefusedBy (bad_arguments counting state) number → number ≤ most_number
      small number (inl (none, e)) = omega (arith, e)
      small number (inr (some, inl (none, e))) = omega (arith, e)
      small number (inr (some, inr (other, none))) = absurd none

  no_list_refused : Responded → OfNoList words → kind_in told ≢ bad_argument
      → (number : ℕ) × RefusedBy (laws.before_the_areas own (length image)) number × (told ≡ result refused number)
  no_list_refused (inl bad) none good = absurd (good (bad_kind bad))
  no_list_refused (inr p) none good = by p.meant
    where
      by : StandFor words (length image) p.areas
          → (number : ℕ) × RefusedBy (laws.before_the_areas own (length image)) number × (told ≡ result refused number)
      by (inl e) = absurd (none p.areas e)
      by (inr (same, broken)) =
          let (number, first, told_as) =
          broken_told p.station p.areas frame image buffer p.outcome i r p.answers broken in
          (number, subst (λ (own : ℕ). RefusedBy (laws.before_the_areas own (length image)) number) p.settings.address first, p.told_as ∙ told_as)

  image_by_kind : Responded → kind_in told ≢ reply → i ≡ image
  image_by_kind (inl bad) other = bad.image_kept
  image_by_kind (inr p) other =
      image_kept p.station p.areas frame image buffer p.outcome i r p.answers (rw p.told_as at other)

  buffer_by_kind : Responded → kind_in told ≢ reply → kind_in told ≢ exception → r ≡ buffer
  buffer_by_kind (inl bad) other exceptional = bad.reply_kept
  buffer_by_kind (inr p) other exceptional =
      buffer_kept p.station p.areas frame image buffer p.outcome i r p.answers (rw p.told_as at other)
      (rw p.told_as at exceptional)

  exception_by_kind : Responded → kind_in told ≡ exception → KeptBeyond exception_length buffer r
  exception_by_kind (inl bad) is = absurd (omega (arith, bad_kind bad, is))
  exception_by_kind (inr p) is =
      behind_an_exception p.station p.areas frame image buffer p.outcome i r p.answers (rw p.told_as at is)

  reply_by_kind : Responded → kind_in told ≡ reply → KeptBeyond (number_in told) buffer r
  reply_by_kind (inl bad) is = absurd (omega (arith, bad_kind bad, is))
  reply_by_kind (inr p) is = rw p.told_as
      (behind_a_reply p.station p.areas frame image buffer p.outcome i r p.answers (rw p.told_as at is))

  damage_by_kind : Responded → (right : List ℕ) → Damaged right frame → kind_in told ≢ bad_argument → kind_in told ≢ refused
      → (told ≡ result silent 11) × (i ≡ image) × (r ≡ buffer)
  damage_by_kind (inl bad) right damaged good kept = absurd (good (bad_kind bad))
  damage_by_kind (inr p) right damaged good kept =
      let (told_as, images, buffers) =
      damage_told p.station p.areas frame image buffer p.outcome i r p.answers right damaged (rw p.told_as at kept) in
      (p.told_as ∙ told_as, images, buffers)

pub NoListRefused : laws.NoListRefused
NoListRefused = no_list_refused

pub Kept : laws.Kept
Kept = record {
  image = image_by_kind;
  buffer = buffer_by_kind;
  behind_an_exception = exception_by_kind;
  behind_a_reply = reply_by_kind;
}

pub DamageTold : laws.DamageTold
DamageTold = damage_by_kind

pub DamagedReplyTold : laws.DamagedReplyTold
DamagedReplyTold station number start value reply before told after (inl (none, unknown, kept)) right damaged other =
    absurd (other unknown)
DamagedReplyTold station number start value reply before told after (inr (function, named, (read, reads, told_as))) right damaged
    other =
    let request = request_of station function start value in
    let fields = fields_kept request (length before) reply read reads.told (rw told_as at other) in
    let (refusal, kept) = master-laws.DamagedReply request right reply before read after fields damaged reads in
    (told_as ∙ ap reading_result refusal, kept)
  where
    -- what is refused with 70 is told so
    fields_kept : (request : Request) (room : ℕ) (reply : List ℕ) (read : Result Reading Refusal) → ToldBy request room reply read
        → reading_result read ≢ result refused 70 → FieldsRefused request room → ⊥
    fields_kept request room reply (Err why) (inl (fields, e)) other refusing = other (ap (result refused) e)
    fields_kept request room reply (Err why) (inr (kept, later)) other refusing = kept refusing
    fields_kept request room reply (Ok reading) told other refusing = told.0.0 refusing
