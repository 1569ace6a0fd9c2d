-- Promises that determine the answer, and what a test of the code answers.
-- Assumes nothing.
use mathlib.Core.Path.{◌≡◌, refl, sym, ap, ap₂, ◌∙◌}
use mathlib.Core.Bool.{Bool, true, false, not, false≢true}
use Rattle.std.specs.Result.{is_ok}
use Rattle.std.specs.declared.result.Result.{Result}
use Rattle.std.specs.declared.result.Result.TheVariants.{Ok, Err}
use Rattle.promise.specs.Promise.{Determined, Decides, Attempt}

-- one that names the answer
pub equal_determined : {Answer : Type 0} (x : Answer) → Determined (λ (a : Answer). a ≡ x)
equal_determined x a b p q = p ∙ sym q

-- one that says whether a fact holds
pub decides_determined : (Fact : Type 0) → Determined (Decides Fact)
decides_determined Fact true true p q = refl
decides_determined Fact true false p q = absurd (q p)
decides_determined Fact false true p q = absurd (p q)
decides_determined Fact false false p q = refl

-- an attempt, where what is done determines the content
pub attempt_determined : {Content : Type 0} (Possible : Type 0) (Done : Content → Type 0) (before : Content)
    → (Possible → Determined Done) → Determined (λ (a : Bool × Content). Attempt Possible Done before a.0 a.1)
unfolding Attempt
attempt_determined Possible Done before one (true, x) (true, y) p q = cc (one p.0 x y p.1 q.1)
attempt_determined Possible Done before one (true, x) (false, y) p q = absurd (q.0 p.0)
attempt_determined Possible Done before one (false, x) (true, y) p q = absurd (p.0 q.0)
attempt_determined Possible Done before one (false, x) (false, y) p q = cc (p.1, q.1)

-- ---- a result that holds no value, with an error of one form, is told by whether it is `Ok`

by_ok : {Error : Type 0} → ((e f : Error) → e ≡ f) → (x y : Result (Unit {0}) Error) → is_ok x ≡ is_ok y → x ≡ y
by_ok one (Ok x) (Ok y) e = refl
by_ok one (Ok x) (Err y) e = absurd (false≢true (sym e))
by_ok one (Err x) (Ok y) e = absurd (false≢true e)
by_ok one (Err x) (Err y) e = ap Err (one x y)

pub answers_by_ok : {Error Content : Type 0} → ((e f : Error) → e ≡ f) → {x y : Result (Unit {0}) Error} {s t : Content}
    → ◌≡◌ {A = Bool × Content} (is_ok x, s) (is_ok y, t) → ◌≡◌ {A = Result (Unit {0}) Error × Content} (x, s) (y, t)
answers_by_ok {Error} {Content} one {x = x} {y = y} e =
    ap₂ (λ (r : Result (Unit {0}) Error) (lent : Content). (r, lent)) (by_ok one x y (ap (λ (a : Bool × Content). a.0) e))
    (ap (λ (a : Bool × Content). a.1) e)

-- ---- different things have different names, if there is a way back from the name

pub back_apart : {A B : Type 0} (name : A → B) (back : B → A) → ((a : A) → back (name a) ≡ a) → (a b : A) → name a ≡ name b → a ≡ b
back_apart name back there a b e = sym (there a) ∙ ap back e ∙ there b

-- ---- an attempt, said otherwise: possible in the same cases, and what is done is done in other words

pub attempt_map : {Content : Type 0} (P Q : Type 0) (D E : Content → Type 0) (before : Content) (r : Bool) (after : Content)
    → (P → Q) → (Q → P) → (D after → E after) → Attempt P D before r after → Attempt Q E before r after
unfolding Attempt
attempt_map P Q D E before true after to back done p = (to p.0, done p.1)
attempt_map P Q D E before false after to back done p = (λ q. p.0 (back q), p.1)

-- ---- an attempt that is possible is done

pub attempt_done : {Content : Type 0} (Possible : Type 0) (Done : Content → Type 0) (before : Content) (r : Bool)
    (after : Content) → Attempt Possible Done before r after → Possible → Done after
unfolding Attempt
attempt_done Possible Done before true after p possible = p.1
attempt_done Possible Done before false after p possible = absurd (p.0 possible)

-- ---- what a test of the code answers

pub decides_by : (Fact : Type 0) (t : Bool) → (t ≡ true → Fact) → (Fact → t ≡ true) → Decides Fact t
decides_by Fact true holds back = holds refl
decides_by Fact false holds back = λ fact. false≢true (back fact)

-- the same fact in other words
pub decides_map : (P Q : Type 0) (t : Bool) → (P → Q) → (Q → P) → Decides P t → Decides Q t
decides_map P Q true to back says = to says
decides_map P Q false to back says = λ q. says (back q)

-- the opposite
pub decides_not : (P Q : Type 0) (t : Bool) → (P → Q → ⊥) → ((P → ⊥) → Q) → Decides P t → Decides Q (not t)
decides_not P Q true excludes otherwise says = excludes says
decides_not P Q false excludes otherwise says = otherwise says

-- ---- behind a test `if t`

pub if_taken : (Fact : Type 0) (t : Bool) → Decides Fact t → t ≡ true → Fact
if_taken Fact true says e = says
if_taken Fact false says e = absurd (false≢true e)

pub if_left : (Fact : Type 0) (t : Bool) → Decides Fact t → t ≡ false → Fact → ⊥
if_left Fact true says e = absurd (false≢true (sym e))
if_left Fact false says e = says

-- ---- behind a test `if !t`

pub passed : (Fact : Type 0) (t : Bool) → Decides Fact t → not t ≡ false → Fact
passed Fact true says e = says
passed Fact false says e = absurd (false≢true (sym e))

pub failed : (Fact : Type 0) (t : Bool) → Decides Fact t → not t ≡ true → Fact → ⊥
failed Fact true says e = absurd (false≢true e)
failed Fact false says e = says

-- an attempt that the test found not possible
pub refused : {Content : Type 0} (Possible : Type 0) (Done : Content → Type 0) (before : Content) (t : Bool) → Decides Possible t
    → not t ≡ true → Attempt Possible Done before false before
unfolding Attempt
refused Possible Done before t says e = (failed Possible t says e, refl)
