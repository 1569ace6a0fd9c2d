-- The laws on answers, of the contracts as the source has them: what `survey` ensures is `Promised`, and it requires nothing; of
-- `survey_words` `Post` is what it ensures, `Pre` what it requires. `a` are the arguments: `a.0.now` is the list, `a.1.0` the
-- image's number of words, `a.1.1.0` the run; `r` is the result, `s` are the parameters as the call leaves them.
-- Assumes nothing.
use mathlib.Core.Path.{◌≡◌, refl}
use Prim.Native.Nat.{◌<◌}
use lib.ListN.{length}
use seplogic.Ra.Ura.{Ura}
use base.Logic.{SProp, emp}
use prog.Memory.{Memory}
use prog.Routine.{Routine}
use types.Logic.{Logic}
use contract.Monad.{Fun, fact}
use denote.Triple.Entry.{Args}
use Rattle.promise.specs.Promise.{Determined}
use Rattle.std.specs.Prelude.{Option, None, Result}
use Rattle.areas.specs.declared.Access.{Access}
use Rattle.areas.specs.declared.UnknownAccess.{UnknownAccess}
use Rattle.areas.specs.declared.Verdict.{Verdict}
use Rattle.areas.specs.Rules.{most_areas}
use Rattle.areas.specs.Calls.{Survey}
use Rattle.areas.proofs.Words.{access_named_determined}
use Rattle.areas.proofs.Laws as laws
use Rattle.areas.specs.contracts.survey as survey
use Rattle.areas.proofs.survey_words.Reads as survey-words
use Rattle.areas.proofs.AccessTryFromU16.try_from.Reads as access

abbrev pub Promised : (κs : _) → Args survey.signature κs → Option Verdict → Type 0
Promised κs a = Survey a.0.now a.1.0 a.1.1.0

survey_ensures : {M : Type 1} {𝓤 : Ura M} (𝓛 : Logic 𝓤) (mem : Memory → SProp 𝓤) (run : Routine → Fun 𝓤)
    (κs : _) (a : _) (r : Option Verdict) (s : _) → (survey.clauses 𝓛 mem run κs a).ensures tt r s ≡ fact 𝓤 (Promised κs a r)
survey_ensures 𝓛 mem run κs a r s = refl

survey_takes : {M : Type 1} {𝓤 : Ura M} (𝓛 : Logic 𝓤) (mem : Memory → SProp 𝓤) (run : Routine → Fun 𝓤)
    (κs : _) (a : _) → (survey.clauses 𝓛 mem run κs a).requires tt ≡ emp 𝓤
survey_takes 𝓛 mem run κs a = refl

-- it determines its answer
survey_determined : (κs : _) (a : Args survey.signature κs) → Determined (Promised κs a)
survey_determined κs a = laws.SurveyDetermined a.0.now a.1.0 a.1.1.0

-- a list that is too long breaks a rule
survey_over_sixteen : (κs : _) (a : Args survey.signature κs) (r : Option Verdict) → most_areas < length a.0.now → Promised κs a r
    → r ≡ None
survey_over_sixteen κs a = laws.OverSixteen a.0.now a.1.0 a.1.1.0

-- ---- the same of a list as words

survey_words_takes : (κs : _) (a : _) → survey-words.Pre κs a
survey_words_takes κs a = tt

survey_words_determined : (κs : _) (a : _) (x y : Option Verdict) (s t : _) → survey-words.Post κs a x s → survey-words.Post κs a y t → x ≡ y
survey_words_determined κs a x y s t = laws.SurveyWordsDetermined a.0.now a.1.0 a.1.1.0 x y

-- ---- what an access word stands for

access_determined : (κs : _) (a : _) (x y : Result Access UnknownAccess) (s t : _) → access.Post κs a x s → access.Post κs a y t → x ≡ y
access_determined κs a x y s t = access_named_determined a.0 x y

access_takes : (κs : _) (a : _) → access.Pre κs a
access_takes κs a = tt
