-- The table of examples, as specs/Examples.antt states it.
-- Assumes nothing.
use mathlib.Core.Path.{refl}
use mathlib.Core.Logic.{inl, ⊎_elim}
use native.Mathlib.Omega.{arith}
use Rattle.promise.specs.Promise.{Attempt}
use Rattle.check_word.specs.CheckWord.{corrected, step, steps, add_byte, add_bytes, check_word}
use Rattle.check_word.specs.Frame.{Right}
use Rattle.registers.proofs.Witnesses as registers
use Rattle.areas.proofs.Witnesses as areas-of
use Rattle.frames.specs.Fields.{number}
use Rattle.frames.specs.Functions.{function_of}
use Rattle.frames.specs.declared.Code.TheVariants.{Address}
use Rattle.slave.specs.declared.decide.Decision.TheVariants.{Exception}
use Rattle.slave.specs.Examples as examples
use Rattle.slave.specs.Table.{table}
use Rattle.slave.specs.Deciding.{Decided}
use Rattle.slave.proofs.Cases.{state_place, lookup_place, act_place, apart}
use Rattle.slave.proofs.Lines.{here, past}

right : Right examples.start_0
unfolding check_word add_bytes add_byte steps step corrected
right = record { enough = omega arith; ends = refl }

-- each line that does not apply, and then E2
decided : Decided (table examples.station examples.areas 16 256 examples.start_0) examples.station examples.start_0 (Exception Address)
unfolding function_of number
decided =
    past (λ e. omega arith)
    (past (⊎_elim (λ e. omega arith) (λ h. omega arith))
    (past (λ broken. broken areas-of.bench_kept)
    (past (λ h. omega arith)
    (past (⊎_elim (λ h. omega arith) (λ h. omega arith))
    (past (λ wrong. wrong right)
    (past (⊎_elim (λ e. omega arith) (λ other. other refl))
    (past (λ e. apart state_place refl e (omega arith))
    (past (λ e. apart state_place refl e (omega arith))
    (past (λ e. apart lookup_place refl e (omega arith))
    (past (λ wrong. wrong refl)
    (past (λ e. omega arith)
    (past (⊎_elim (λ h. omega arith)
    (⊎_elim (λ run. apart act_place refl run.0 (omega arith)) (λ one. apart act_place refl one.0 (omega arith))))
    (here (inl (refl, refl)) refl tt)))))))))))))

pub Examples : examples.Examples
unfolding Attempt check_word add_bytes add_byte steps step corrected number
Examples = record {
  check_word_of_a_request = refl;
  check_word_of_a_reply = refl;
  check_word_of_a_write = refl;
  check_word_of_a_run = refl;
  bit_24 = registers.bit_24;
  bit_0e91 = registers.bit_0e91;
  bit_24_off = (registers.bit_24_off).1;
  three_bits = registers.three_bits;
  j_bus_start_1 = refl;
  j_bus_start_0 = decided.kind;
}
