-- `montrakit_respond` meets its contract.
-- Assumes nothing.
use Rattle.std.proofs.Common.{inl, inr, refl, length}
use Rattle.areas.proofs.Words.{stands}
use Rattle.montrakit.proofs.Fitting.{outcome_fits}
use Rattle.montrakit.proofs.montrakit_respond.Goals as goal

pub returns-in_default-state : goal.returns-in_default-state
returns-in_default-state c =
    inl record {
      number = 2;
      first = inr (λ nothing. nothing c.in-Some.counting c.in-Some.ensures, inl (c.in_default-state.ensures, refl));
      told_as = c.bad_argument-in_default-state.ensures;
      image_kept = refl;
      reply_kept = refl;
    }

pub outcome-requires : goal.outcome-requires
outcome-requires c =
    let (areas, stand) = stands c.args.areas.now (length c.args.image.now) in
    outcome_fits _ _ _ _ _ c.respond_to_words-outcome.result _ _ (c.respond_to_words-outcome.ensures areas stand)

pub returns : goal.returns
returns c =
    let (areas, stand) = stands c.args.areas.now (length c.args.image.now) in
    inr record {
      station = _;
      settings = record { address = refl; counts = c.in-Some.ensures; does = c.in-Some-state.ensures };
      areas = areas;
      meant = stand;
      outcome = c.respond_to_words-outcome.result;
      answers = c.respond_to_words-outcome.ensures areas stand;
      told_as = c.outcome.ensures;
    }
