-- The law on the demands, as specs/Laws.antt states it.
-- Assumes nothing.
use Rattle.demands.specs.Laws as laws
use Rattle.demands.proofs.Sufficing.{suffices}

pub Suffice : laws.Suffice
Suffice = suffices
