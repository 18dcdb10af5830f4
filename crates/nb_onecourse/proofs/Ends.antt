-- Exchanges that end no open: what they put has no end among it.
use Rattle.std.proofs.Common.{◌≡◌, ℕ, ◌==◌, Bool, true, false, List, [], ◌∷◌, ◌++◌, length, Option, Some, None, refl, sym, ◌∙◌, ap, arith, cond, length-append, eq-eqb}
use Rattle.std.specs.List.{AllByRecursion}
use Rattle.nb_terms.specs.declared.cause.Cause.{Cause}
use Rattle.nb_defs.specs.Records.{Out, step, sent, text, command, result, script, opened, tried, advanced, ended, graph, part, done}
use Rattle.nb_terms.specs.declared.acts.Acts.{Acts}
use Rattle.nb_stack.specs.Client.{Client}
use Rattle.nb_machine.specs.Sendings.{acts_records}
use Rattle.nb_machine.specs.Transfers.{earlier_end, finds_none, end_records}
use Rattle.nb_machine.specs.Takings.{end_told, end_among}

-- the same lists, cut before their last items
pub snoc_same : {A : Type 0} (xs ys : List A) (x y : A) → xs ++ x ∷ [] ≡ ys ++ y ∷ [] → (xs ≡ ys) × (x ≡ y)
snoc_same [] [] x y e = (refl, cc)
snoc_same [] (b ∷ ys) x y e = absurd (omega (arith, ap length e, length-append ys (y ∷ [])))
snoc_same (a ∷ xs) [] x y e = absurd (omega (arith, ap length e, length-append xs (x ∷ [])))
snoc_same (a ∷ xs) (b ∷ ys) x y e =
    let h : a ≡ b = cc in
    let t : xs ++ x ∷ [] ≡ ys ++ y ∷ [] = cc in
    let k = snoc_same xs ys x y t in
    (ap (λ z. z ∷ xs) h ∙ ap (λ z. b ∷ z) k.0, k.1)

pub snoc_some : {A : Type 0} (xs : List A) (x : A) → [] ≡ xs ++ x ∷ [] → ⊥
snoc_some xs x e = omega (arith, ap length e, length-append xs (x ∷ []))

-- a fact of each item, of the first ones and of the last
pub all_init : {A : Type 0} (P : A → Type 0) (xs : List A) (x : A) → AllByRecursion P (xs ++ x ∷ []) → AllByRecursion P xs × P x
all_init P [] x h = (tt, h.0)
all_init P (y ∷ xs) x h = let k = all_init P xs x h.1 in ((h.0, k.0), k.1)

pub all_snoc : {A : Type 0} (P : A → Type 0) (xs : List A) (x : A) → AllByRecursion P xs → P x → AllByRecursion P (xs ++ x ∷ [])
all_snoc P [] x h p = (p, tt)
all_snoc P (y ∷ xs) x h p = (h.0, all_snoc P xs x h.1 p)

pub chosen_none : (b : Bool) (cause : Cause) (later : Option Cause) → cond b (Some cause) later ≡ None → later ≡ None
chosen_none true cause later e = let no : Some cause ≡ None = e in absurd (cc)
chosen_none false cause later e = e

told_later : (k : ℕ) (o : Out) (later : Option Cause) → end_told k o later ≡ None → later ≡ None
told_later k (ended number cause) later e = chosen_none (number == k) cause later e
told_later k (step number) later e = e
told_later k (sent bytes) later e = e
told_later k (text bytes) later e = e
told_later k (command depth line place expanded words) later e = e
told_later k (result cause) later e = e
told_later k (script what depth cause) later e = e
told_later k (opened number kind server port own target) later e = e
told_later k (tried number count) later e = e
told_later k (advanced number place) later e = e
told_later k (graph happens) later e = e
told_later k (part kind index offset bytes) later e = e
told_later k (done status) later e = e

end_later : (k : ℕ) (xs ys : List Out) → end_among k (xs ++ ys) ≡ None → end_among k ys ≡ None
end_later k [] ys e = e
end_later k (o ∷ xs) ys e = end_later k xs ys (told_later k o (end_among k (xs ++ ys)) e)

own_end : (k : ℕ) (x : Option Cause) → end_among k (end_records k x) ≡ x
own_end k None = refl
own_end k (Some cause) = ap (λ b. cond b (Some cause) None) (eq-eqb k k refl)

-- where no end stands among records and the end after them, there is none
pub no_end : (k : ℕ) (xs : List Out) (x : Option Cause) → end_among k (xs ++ end_records k x) ≡ None → x ≡ None
no_end k xs x e = sym (own_end k x) ∙ end_later k xs (end_records k x) e

-- nor was it closed
pub not_closed : (k : ℕ) (cause : Cause) → end_among k (ended k cause ∷ []) ≡ None → ⊥
not_closed k cause e = let no : Some cause ≡ None = sym (own_end k (Some cause)) ∙ e in cc

-- neither end came where the first of both didn't
pub earlier_parts : (x y : Option Cause) → earlier_end x y ≡ None → (x ≡ None) × (y ≡ None)
earlier_parts None y e = (refl, e)
earlier_parts (Some cause) y e = let no : Some cause ≡ None = e in absurd (cc)

pub cond_no : (b : Bool) (cause : Cause) → cond b (Some cause) None ≡ None → b ≡ false
cond_no true cause e = let no : Some cause ≡ None = e in absurd (cc)
cond_no false cause e = refl

-- an exchange that ended nothing put what its transfer asked, and found a way for it
pub record WentOn (k : ℕ) (link : Client) (acts : Acts) (put : List Out) : Type 0 where
  pub records : put ≡ acts_records link k acts
  pub over : acts.over ≡ None
  pub ways : finds_none link acts ≡ false
