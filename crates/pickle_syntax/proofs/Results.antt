-- What is known of an answer, step by step.
use Rattle.std.proofs.Common.{◌≡◌, Bool, true, false, cond, refl, subst, Result, Ok, Err}
use Rattle.pickle_syntax.specs.Reading.{Fault, ◌>>=◌}

abbrev ok : {A : Type 0} → A → Result A Fault
ok x = Ok x

pub ok_is : {A : Type 0} (x y : A) → ok x ≡ ok y → x ≡ y
ok_is x y e = cc

-- one fact of the value, and one of the fault
pub record Outcome {A : Type 0} (Good : A → Type 0) (Bad : Fault → Type 0) (r : Result A Fault) : Type 0 where
  pub good : (x : A) → r ≡ Ok x → Good x
  pub bad : (f : Fault) → r ≡ Err f → Bad f

pub value : {A : Type 0} (Good : A → Type 0) (Bad : Fault → Type 0) (x : A) → Good x → Outcome Good Bad (Ok x)
value Good Bad x g = record { good = λ y e. subst Good (ok_is x y e) g; bad = λ f e. absurd cc }

pub fault : {A : Type 0} (Good : A → Type 0) (Bad : Fault → Type 0) (f : Fault) → Bad f → Outcome Good Bad (Err f)
fault Good Bad f b = record { good = λ y e. absurd cc; bad = λ d e. let same : f ≡ d = cc in subst Bad same b }

-- a step, and then the rest
pub then : {A B : Type 0} {GoodA : A → Type 0} {BadA : Fault → Type 0} {GoodB : B → Type 0} {BadB : Fault → Type 0}
    (r : Result A Fault) (f : A → Result B Fault) →
    Outcome GoodA BadA r → ((x : A) → r ≡ Ok x → GoodA x → Outcome GoodB BadB (f x)) → ((d : Fault) → BadA d → BadB d) →
    Outcome GoodB BadB (r >>= f)
then (Ok x) f o more less = more x refl (o.good x refl)
then (Err d) f o more less = fault _ _ d (less d (o.bad d refl))

-- one of two answers
pub either : {A : Type 0} {Good : A → Type 0} {Bad : Fault → Type 0} (b : Bool) (x y : Result A Fault) →
    (b ≡ true → Outcome Good Bad x) → (b ≡ false → Outcome Good Bad y) → Outcome Good Bad (cond b x y)
either true x y l r = l refl
either false x y l r = r refl

-- the same answer, of which less is said
pub then_all : {A : Type 0} {Good More : A → Type 0} {Bad Worse : Fault → Type 0} (r : Result A Fault) →
    Outcome Good Bad r → ((x : A) → Good x → More x) → ((f : Fault) → Bad f → Worse f) → Outcome More Worse r
then_all r o more less = record { good = λ x e. more x (o.good x e); bad = λ f e. less f (o.bad f e) }
