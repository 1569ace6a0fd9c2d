-- `montrakit_build` meets its contract.
-- Assumes nothing.
use Rattle.montrakit.proofs.Fitting.{built_fits}
use Rattle.montrakit.proofs.montrakit_build.Goals as goal

pub built-requires : goal.built-requires
built-requires c = built_fits _ _ _ c.build-built.result _ c.build-built.ensures
