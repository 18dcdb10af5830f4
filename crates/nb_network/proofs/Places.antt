-- Where an open stands in a list.
use Rattle.std.proofs.Common.{◌≡◌, ℕ, suc, ◌+◌, ◌-◌, ◌<◌, ◌≤◌, ◌==◌, Bool, true, false, List, [], ◌∷◌, ◌++◌, length, take, drop, get_or, set, Option, Some, None, refl, sym, ◌∙◌, ap, subst, arith}
use Rattle.std.specs.List.{AllByRecursion, remove}
use Rattle.std.proofs.Math.Seq.{drop-cons, get_or-append_seam, set-append_seam}
use Rattle.std.proofs.lemmas.List.{length-append, length-take-le, take-append-drop}
use Rattle.std.proofs.lemmas.List.Edits.{remove-append_right}
use Rattle.std.proofs.lemmas.Bool.{eqb-true, eqb-false}
use Rattle.nb_network.specs.declared.living.Living.{Living}
use Rattle.nb_record.specs.Logged.{Logged}
use Rattle.nb_stack.specs.Client.{Client}
use Rattle.nb_teller.specs.Spelling.{Spelling}
use Rattle.nb_open.specs.declared.ended.Ended.{Ended}
use Rattle.nb_network.specs.declared.over.HasEnded.{HasEnded}
use Rattle.nb_network.specs.Steps.{EndIsSettled, IsOpenAt, left_by, place_after}
use Rattle.nb_network.proofs.Lists.{all_at}
use Rattle.nb_network.specs.Drives.{DriveNews, noted}

pub stands_at : (list : List Living) (i : ℕ) (d : Living) → i < length list → IsOpenAt list i (get_or list i d)
stands_at list i d h = record {
  before = take i list;
  behind = drop (suc i) list;
  all = sym (ap (λ z. take i list ++ z) (sym (drop-cons list i d h)) ∙ take-append-drop i list);
  place_is = length-take-le i list (omega arith);
}

-- the open of a place is the one that stands there
pub open_at : (list : List Living) (i : ℕ) (d o : Living) → IsOpenAt list i o → get_or list i d ≡ o
open_at list i d o s = ap (λ z. get_or z i d) s.all ∙ ap (λ z. get_or (s.before ++ o ∷ s.behind) z d) (sym s.place_is) ∙ get_or-append_seam s.before o s.behind d

-- with another in its place
pub set_at : (list : List Living) (i : ℕ) (o : Living) (s : IsOpenAt list i o) (y : Living) → set list i y ≡ s.before ++ y ∷ s.behind
set_at list i o s y = ap (λ z. set z i y) s.all ∙ ap (λ k. set (s.before ++ o ∷ s.behind) k y) (sym s.place_is) ∙ set-append_seam s.before o s.behind y

pub removed_at : (list : List Living) (i : ℕ) (o : Living) (s : IsOpenAt list i o) → remove list i ≡ s.before ++ s.behind
removed_at list i o s = ap (λ z. remove z i) s.all ∙ remove-append_right s.before (o ∷ s.behind) i i s.place_is (omega arith) ∙ ap (λ z. s.before ++ remove (o ∷ s.behind) z) (let e : i - i ≡ 0 = omega arith in e)

pub all_of_place : (P : Living → Type 0) (list : List Living) (i : ℕ) (d : Living) → i < length list → AllByRecursion P list → P (get_or list i d)
all_of_place P list i d h all = let s = stands_at list i d h in all_at P s.before (get_or list i d) s.behind (subst (AllByRecursion P) s.all all)

pub found_at : (list : List Living) (i : ℕ) (d : Living) (n : ℕ) → i < length list → n ≡ (get_or list i d).speaker.number → (o : Living) × IsOpenAt list i o × (o.speaker.number ≡ n)
found_at list i d n h e = (get_or list i d, stands_at list i d h, sym e)

-- none has it, where no place has
pub none_has : (list : List Living) (n : ℕ) → ((d : Living) (k : ℕ) → k < length list → (get_or list k d).speaker.number ≡ n → ⊥) → AllByRecursion (λ o. o.speaker.number ≡ n → ⊥) list
none_has [] n h = tt
none_has (o ∷ os) n h = (h o 0 (omega arith), none_has os n (λ d k i. h d (suc k) (omega (arith, i))))

-- it isn't at one place more
pub not_here : (list : List Living) (i n : ℕ) (e : Living) → i < length list → ((d : Living) (k : ℕ) → k < i → (get_or list k d).speaker.number ≡ n → ⊥) → ((get_or list i e).speaker.number ≡ n → ⊥) →
    (d : Living) (k : ℕ) → k < i + 1 → (get_or list k d).speaker.number ≡ n → ⊥
not_here list i n e h before here d k less is = by (k == i) refl
  where
    by : (b : Bool) → (k == i) ≡ b → ⊥
    by true t = here (ap (λ (o : Living). o.speaker.number) (sym (open_at list i d (get_or list i e) (stands_at list i e h))) ∙ ap (λ z. (get_or list z d).speaker.number) (sym (eqb-true k i t)) ∙ is)
    by false f = before d k (let no = eqb-false k i f in omega (arith, less, no)) is

pub some_at : (list : List Living) (i : ℕ) → i < length list → (o : Living) × IsOpenAt list i o
some_at [] i h = absurd (omega (arith, h))
some_at (x ∷ xs) i h = (get_or (x ∷ xs) i x, stands_at (x ∷ xs) i x h)

pub settled_list : (end : Option Ended) (before : List Living) (o : Living) (behind : List Living) (net : Client) (begun awaited : Option ℕ) (heard : DriveNews) (s : Spelling) (list' : List Living) (net' : Client) (answer : Option HasEnded) (old new : Logged) →
    EndIsSettled end before o behind net begun awaited heard s list' net' answer old new → list' ≡ before ++ (left_by end heard o ++ behind)
settled_list None before o behind net begun awaited heard s list' net' answer old new h = h.0
settled_list (Some e) before o behind net begun awaited heard s list' net' answer old new h = h.0

-- fewer are left from the next place on
pub steps_down : (end : Option Ended) (heard : DriveNews) (list list1 : List Living) (place : ℕ) (o : Living) (at : IsOpenAt list place o) → list1 ≡ at.before ++ (left_by end heard o ++ at.behind) → (length list1 - place_after end place < length list - place) × (place_after end place ≤ length list1)
steps_down None heard list list1 place o at e =
    let a = ap length e in let b = length-append at.before (noted heard o ∷ at.behind) in let c = length-append at.before (o ∷ at.behind) in let d = ap length at.all in let p = at.place_is in (omega (arith, a, b, c, d, p), omega (arith, a, b, c, d, p))
steps_down (Some x) heard list list1 place o at e =
    let a = ap length e in let b = length-append at.before at.behind in let f = length-append at.before (o ∷ at.behind) in let d = ap length at.all in let p = at.place_is in (omega (arith, a, b, f, d, p), omega (arith, a, b, f, d, p))

pub place_grows : (end : Option Ended) (heard : DriveNews) (o : Living) (done : List Living) (place : ℕ) → length done ≡ place → length (done ++ left_by end heard o) ≡ place_after end place
place_grows None heard o done place e = let a = length-append done (noted heard o ∷ []) in omega (arith, a, e)
place_grows (Some x) heard o done place e = let a = length-append {A = Living} done [] in omega (arith, a, e)

pub none_there : (list : List Living) → length list ≡ 0 → list ≡ []
none_there [] e = refl
none_there (x ∷ xs) e = absurd (omega (arith, e))

pub some_first : (list : List Living) → (length list ≡ 0 → ⊥) → (o : Living) × (rest : List Living) × (list ≡ o ∷ rest)
some_first [] f = absurd (f refl)
some_first (x ∷ xs) f = (x, xs, refl)
