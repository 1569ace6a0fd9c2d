-- The laws of specs/Laws.antt, each under its name.
-- Assumes nothing.
use mathlib.Core.Path.{refl}
use Rattle.master.proofs.Laws.{BuiltFrames}
use Rattle.exchange.specs.Laws as laws
use Rattle.exchange.proofs.Answered.{answered}
use Rattle.exchange.proofs.Understood.{understood_by}

pub BuiltRight : laws.BuiltRight
BuiltRight = record {
  right = λ request carried before n after built. (BuiltFrames request carried before n after built).right;
  answered = λ request carried call answer received answers kept. answered received answers kept;
}

pub Understood : laws.Understood
Understood request carried call answer received answers kept buffer room =
    understood_by received answers kept buffer room answer.outcome refl
