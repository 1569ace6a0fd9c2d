-- What the slave sends to a built request, by its outcome; and what a write that it accepts sets.
-- Assumes nothing.
use mathlib.Core.Path.{◌≡◌, sym, ap, subst, ◌∙◌}
use mathlib.Core.List.{List, [], ◌∷◌}
use Prim.Native.Nat.{ℕ}
use lib.ListN.{take}
use lib.Seq.{take_at}
use Rattle.check_word.specs.Frame.{framed}
use Rattle.frames.specs.declared.Act.TheVariants.{Read, WriteOne, WriteRun}
use Rattle.frames.specs.declared.Code.{Code}
use Rattle.frames.specs.Limits.{bytes_for}
use Rattle.frames.specs.Exceptions.{code_number, exception_frame, exception_length}
use Rattle.slave.specs.declared.Silence.{Silence}
use Rattle.slave.specs.declared.Outcome.{Outcome}
use Rattle.slave.specs.declared.Outcome.TheVariants.{Silent, Exception, Reply}
use Rattle.slave.specs.Answer.{Shown, Done, Leaves, Call, Answer, Answers, to_send}
use Rattle.demands.specs.Terms.{first_of, sent, SetsExactly, one_datum, run_data}
use Rattle.demands.proofs.Demands.{WriteSetsExactly}
use Rattle.master.specs.declared.Request.{Request}
use Rattle.master.specs.Requests.{function_number, act, width, request_head}
use Rattle.exchange.specs.Terms.{Received, first_named}
use Rattle.exchange.proofs.Fields.{does, function_received, start_received, operand_received, head_received, data_received, one_received}

module _ {request : Request} {carried : List ℕ} {call : Call} {answer : Answer} (received : Received request carried call)
    (answers : Answers call answer) where
  pub nothing_sent : (why : Silence) → answer.outcome ≡ Silent why → sent answer ≡ []
  nothing_sent why is = ap (λ (n : ℕ). take n answer.reply) (ap to_send is)

  abbrev LeftBy : Outcome → Type 0
  LeftBy outcome = Leaves call.station call.frame call.image call.reply outcome answer.image answer.reply

  left_by : (outcome : Outcome) → answer.outcome ≡ outcome → LeftBy outcome
  left_by outcome is = subst LeftBy is answers.left

  pub exception_sent : (code : Code) → answer.outcome ≡ Exception code
      → sent answer ≡ exception_frame request.station (function_number request.function) (code_number code)
  exception_sent code is =
      ap (λ (n : ℕ). take n answer.reply) (ap to_send is) ∙ ap (take exception_length) (left_by (Exception code) is).1
      ∙ (λ i. exception_frame (received.address i) (function_received received i) (code_number code))

  -- ---- an accepted request, by what it does

  module _ (n : ℕ) (is : answer.outcome ≡ Reply n) where
    module _ (reads : act request ≡ Read) where
      pub read_done : Done call.station.own (first_of call) call.frame call.image call.reply Read (width request) n
          answer.image answer.reply
      read_done = rw (does received, reads) at (left_by (Reply n) is)

      pub read_sent : (shown : List ℕ) × Shown (width request) (first_named request call) request.operand call.image shown
          × (sent answer
          ≡ framed (request.station ∷ function_number request.function ∷ bytes_for (width request) request.operand ∷ shown))
      read_sent =
          let (shown, are, bytes) = read_done.are_the_reply in
          let count = ap (bytes_for (width request)) (operand_received received) in (
            shown,
            rw (start_received received, operand_received received) at are,
            ap (take (to_send answer.outcome)) read_done.written
                ∙ take_at read_done.bytes _ _ (sym (ap to_send is ∙ read_done.told)) ∙ bytes
                ∙ (λ i. framed (received.address i ∷ function_received received i ∷ count i ∷ shown)),
          )

    -- the head of the request comes back
    pub one_written : act request ≡ WriteOne
        → SetsExactly (width request) (first_named request call) 1 (one_datum (width request) request.operand)
        call.image answer.image
        × (sent answer ≡ framed (request_head request))
    one_written one =
        let (sets, echo) = WriteSetsExactly.one call answer answers n is (width request) (rw one at (does received)) in
        (rw (start_received received, operand_received received) at sets, echo ∙ one_received received one)

    -- .. also to a run, whose data are set as they were before they were packed again
    pub run_written : act request ≡ WriteRun
        → SetsExactly (width request) (first_named request call) request.operand (run_data (width request) carried)
        call.image answer.image
        × (sent answer ≡ framed (request_head request))
    run_written run =
        let (packed, echo) = WriteSetsExactly.run call answer answers n is (width request) (rw run at (does received)) in
        let sets = rw (start_received received, operand_received received) at packed in (
          record {
            as_long = sets.as_long;
            sets = λ k few. sets.sets k few ∙ data_received received run k few;
            no_other = sets.no_other;
          },
          echo ∙ ap framed (head_received received),
        )
