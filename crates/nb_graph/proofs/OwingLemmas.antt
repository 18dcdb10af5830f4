-- The loads that are lent, through one part of a call and the next.
use Rattle.std.proofs.Common.{◌≡◌, ◌≢◌, ℕ, inl, inr, Bool, true, false, List, [], ◌++◌, refl, ap, sym, ◌∙◌, append_assoc, append-nil}
use Rattle.std.proofs.lemmas.Bool.{cases_eq, false≢true}
use Rattle.nb_graph.specs.Lives.{Same, Back, AllBack, Lends, LendsFirst, Stays}

-- the loads are the same, and then the same
pub Same-then : {L : Type 0} (b c : ℕ → Bool) → ((x : ℕ) → c x ≡ b x) → (x : ℕ) (w v : List L) → Same b x w v → (u : List L) × Same b x w u × Same c x u v
Same-then b c e x w v k = (w, (k.0, refl), (λ i. k.0 (sym (e x) ∙ i), k.1))

-- some come back, and then others
pub Back-then : {L : Type 0} (b c : ℕ → Bool) (y : ℕ) (ls ms : List L) → ((x : ℕ) → c x ≡ b x) → (x : ℕ) (w v : List L) → Back b y (ls ++ ms) x w v → (u : List L) × Back b y ls x w u × Back c y ms x u v
Back-then b c y ls ms e x w v k = elim (cases_eq x y) [
  | inl i ↦
      let a = k.0 i in
      (a.0 ++ (ms ++ a.1), (λ _. (a.0, ms ++ a.1, a.2 ∙ ap (λ z. a.0 ++ z) (append_assoc ls ms a.1), refl), λ n. absurd (n i)), (λ _. (a.0, a.1, refl, a.3), λ n. absurd (n i)))
  | inr n ↦ let a = Same-then b c e x w v (k.1 n) in (a.0, (λ i. absurd (n i), λ _. a.1), (λ i. absurd (n i), λ _. a.2))
]

-- an object that runs may lend
runs-free : (b : ℕ → Bool) (x y : ℕ) (A : Type 0) → b y ≡ true → x ≡ y → b x ≡ false → A
runs-free b x y A r i f = absurd (false≢true (sym f ∙ ap b i ∙ r))

pub Back-same : {L : Type 0} (b c : ℕ → Bool) (y : ℕ) (ls : List L) → ((x : ℕ) → c x ≡ b x) → c y ≡ true → (x : ℕ) (w v : List L) → Back b y ls x w v → (u : List L) × Back b y ls x w u × Same c x u v
Back-same b c y ls e r x w v k = elim (cases_eq x y) [
  | inl i ↦ (v, k, (runs-free c x y (v ≡ []) r i, refl))
  | inr n ↦ let a = Same-then b c e x w v (k.1 n) in (a.0, (λ i. absurd (n i), λ _. a.1), a.2)
]

pub Same-back : {L : Type 0} (b c : ℕ → Bool) (y : ℕ) (ls : List L) → ((x : ℕ) → c x ≡ b x) → b y ≡ true → (x : ℕ) (w v : List L) → Back b y ls x w v → (u : List L) × Same b x w u × Back c y ls x u v
Same-back b c y ls e r x w v k = elim (cases_eq x y) [
  | inl i ↦ let a = k.0 i in (w, (runs-free b x y (w ≡ []) r i, refl), (λ _. a, λ n. absurd (n i)))
  | inr n ↦ let a = Same-then b c e x w v (k.1 n) in (a.0, a.1, (λ i. absurd (n i), λ _. a.2))
]

-- none come back
pub Back-none : {L : Type 0} (b : ℕ → Bool) (y : ℕ) → b y ≡ true → (x : ℕ) (w v : List L) → Back b y [] x w v → Same b x w v
Back-none b y r x w v k = elim (cases_eq x y) [
  | inl i ↦ let a = k.0 i in (runs-free b x y (w ≡ []) r i, a.2 ∙ sym a.3)
  | inr n ↦ k.1 n
]

pub Back-stays : {L : Type 0} (b : ℕ → Bool) (y : ℕ) (x : ℕ) (w v : List L) → Back b y [] x w v → Stays x w v
Back-stays b y x w v k = elim (cases_eq x y) [
  | inl i ↦ let a = k.0 i in a.2 ∙ sym a.3
  | inr n ↦ (k.1 n).1
]

-- all come back
pub AllBack-back : {L : Type 0} (b : ℕ → Bool) (y : ℕ) (ls : List L) (x : ℕ) (w v : List L) → AllBack b y ls x w v → Back b y ls x w v
AllBack-back b y ls x w v k = (λ i. let a = k.0 i in ([], [], a.0 ∙ sym (append-nil ls), a.1), k.1)

pub AllBack-then : {L : Type 0} (b c : ℕ → Bool) (y : ℕ) (ls : List L) → ((x : ℕ) → c x ≡ b x) → (x : ℕ) (w v : List L) → AllBack b y ls x w v → (u : List L) × Back b y ls x w u × AllBack c y [] x u v
AllBack-then b c y ls e x w v k = elim (cases_eq x y) [
  | inl i ↦ let a = k.0 i in ([], (λ _. ([], [], a.0 ∙ sym (append-nil ls), refl), λ n. absurd (n i)), (λ _. (refl, a.1), λ n. absurd (n i)))
  | inr n ↦ let a = Same-then b c e x w v (k.1 n) in (a.0, (λ i. absurd (n i), λ _. a.1), (λ i. absurd (n i), λ _. a.2))
]

-- an entry lends its loads, where none was lent, and they come back
pub AllBack-first : {L : Type 0} (b c : ℕ → Bool) (y : ℕ) (ls : List L) → ((x : ℕ) → c x ≡ b x) → (x : ℕ) (w v : List L) → AllBack b y [] x w v → (u : List L) × LendsFirst y ls x w u × AllBack c y ls x u v
AllBack-first b c y ls e x w v k = elim (cases_eq x y) [
  | inl i ↦ let a = k.0 i in (ls, (λ _. (a.0, refl), λ n. absurd (n i)), (λ _. (refl, a.1), λ n. absurd (n i)))
  | inr n ↦ let a = Same-then b c e x w v (k.1 n) in (w, (λ i. absurd (n i), λ _. refl), (λ i. absurd (n i), λ _. (λ f. (k.1 n).0 (sym (e x) ∙ f), (k.1 n).1)))
]

-- an object that begins to run, where none of it ran
pub Same-first : {L : Type 0} (b c : ℕ → Bool) (y : ℕ) → ((x : ℕ) → x ≢ y → c x ≡ b x) → b y ≡ false → (x : ℕ) (w v : List L) → Same b x w v → AllBack c y [] x w v
Same-first b c y e f x w v k =
    (λ i. let z = k.0 (ap b i ∙ f) in (z, sym k.1 ∙ z), λ n. (λ o. k.0 (sym (e x n) ∙ o), k.1))

-- and where one may run
pub Same-lends : {L : Type 0} (b c : ℕ → Bool) (y : ℕ) (ls : List L) → ((x : ℕ) → x ≢ y → c x ≡ b x) → (x : ℕ) (w v : List L) → Same b x w v → (u : List L) × Lends y ls x w u × Back c y ls x u v
Same-lends b c y ls e x w v k = elim (cases_eq x y) [
  | inl i ↦ (w ++ ls, (λ _. refl, λ n. absurd (n i)), (λ _. (w, [], ap (λ z. w ++ z) (sym (append-nil ls)), sym k.1 ∙ sym (append-nil w)), λ n. absurd (n i)))
  | inr n ↦ (w, (λ i. absurd (n i), λ _. refl), (λ i. absurd (n i), λ _. (λ o. k.0 (sym (e x n) ∙ o), k.1)))
]

pub AllBack-stays : {L : Type 0} (b : ℕ → Bool) (y : ℕ) (x : ℕ) (w v : List L) → AllBack b y [] x w v → Stays x w v
AllBack-stays b y x w v k = elim (cases_eq x y) [
  | inl i ↦ let a = k.0 i in a.0 ∙ sym a.1
  | inr n ↦ (k.1 n).1
]
