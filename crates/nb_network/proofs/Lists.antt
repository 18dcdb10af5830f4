-- Facts of all of a list, of its parts, and of lists of opens.
use Rattle.std.proofs.Common.{◌≡◌, ℕ, ◌+◌, ◌<◌, ◌≤◌, Bool, true, false, List, [], ◌∷◌, ◌++◌, refl, sym, ◌∙◌, ap, arith}
use Rattle.std.specs.List.{AllByRecursion, sum_by}
use Rattle.std.proofs.lemmas.List.Sums.{sum_by-append, sum_by-cons, sum_by_push}
use Rattle.nb_graph.specs.Whole.{Objects}
use Rattle.nb_nodes.specs.declared.obj.Obj.{Obj}
use Rattle.nb_frames.specs.Frames.{is_one_of}
use Rattle.nb_chains.specs.Chains.{AreOthers}
use Rattle.nb_machine.specs.Lives.{Live}
use Rattle.nb_open.specs.Objects.{objects_ids}
use Rattle.nb_network.specs.declared.living.Living.{Living}
use Rattle.nb_network.specs.Many.{AreApart, AreOpensOf, AreRising, IsApartFrom, IsLivingOf}

-- ALL OF A LIST

pub all_append : {A : Type 0} (P : A → Type 0) (xs ys : List A) → AllByRecursion P xs → AllByRecursion P ys → AllByRecursion P (xs ++ ys)
all_append P [] ys h k = k
all_append P (x ∷ xs) ys h k = (h.0, all_append P xs ys h.1 k)

pub all_front : {A : Type 0} (P : A → Type 0) (xs ys : List A) → AllByRecursion P (xs ++ ys) → AllByRecursion P xs
all_front P [] ys h = tt
all_front P (x ∷ xs) ys h = (h.0, all_front P xs ys h.1)

pub all_back : {A : Type 0} (P : A → Type 0) (xs ys : List A) → AllByRecursion P (xs ++ ys) → AllByRecursion P ys
all_back P [] ys h = h
all_back P (x ∷ xs) ys h = all_back P xs ys h.1

pub all_map : {A : Type 0} (P Q : A → Type 0) (xs : List A) → ((x : A) → P x → Q x) → AllByRecursion P xs → AllByRecursion Q xs
all_map P Q [] f h = tt
all_map P Q (x ∷ xs) f h = (f x h.0, all_map P Q xs f h.1)

pub all_both : {A : Type 0} (P Q R : A → Type 0) (xs : List A) → ((x : A) → P x → Q x → R x) → AllByRecursion P xs → AllByRecursion Q xs → AllByRecursion R xs
all_both P Q R [] f h k = tt
all_both P Q R (x ∷ xs) f h k = (f x h.0 k.0, all_both P Q R xs f h.1 k.1)

-- all but the one between
pub all_but : {A : Type 0} (P : A → Type 0) (xs : List A) (y : A) (ys : List A) → AllByRecursion P (xs ++ y ∷ ys) → AllByRecursion P (xs ++ ys)
all_but P xs y ys h = all_append P xs ys (all_front P xs (y ∷ ys) h) (all_back P xs (y ∷ ys) h).1

pub all_at : {A : Type 0} (P : A → Type 0) (xs : List A) (y : A) (ys : List A) → AllByRecursion P (xs ++ y ∷ ys) → P y
all_at P xs y ys h = (all_back P xs (y ∷ ys) h).0

-- OPENS OF THE MACHINE

pub opens_append : (g : Objects Obj) (os : List Living) (ls : List Live) (ps : List Living) (ms : List Live) → AreOpensOf g os ls → AreOpensOf g ps ms → AreOpensOf g (os ++ ps) (ls ++ ms)
opens_append g [] [] ps ms h k = k
opens_append g [] (l ∷ ls) ps ms h k = absurd h
opens_append g (o ∷ os) [] ps ms h k = absurd h
opens_append g (o ∷ os) (l ∷ ls) ps ms h k = (h.0, opens_append g os ls ps ms h.1 k)

-- those of the machine that two parts of a list are
pub record Parted (g : Objects Obj) (os ps : List Living) (ls : List Live) : Type 0 where
  pub front : List Live
  pub back : List Live
  pub all : ls ≡ front ++ back
  pub fronts : AreOpensOf g os front
  pub backs : AreOpensOf g ps back

pub opens_part : (g : Objects Obj) (os ps : List Living) (ls : List Live) → AreOpensOf g (os ++ ps) ls → Parted g os ps ls
opens_part g [] ps ls h = record { front = []; back = ls; all = refl; fronts = tt; backs = h }
opens_part g (o ∷ os) ps [] h = absurd h
opens_part g (o ∷ os) ps (l ∷ ls) h =
    let p = opens_part g os ps ls h.1 in
    record { front = l ∷ p.front; back = p.back; all = ap (λ z. l ∷ z) p.all; fronts = (h.0, p.fronts); backs = p.backs }

-- one between two parts
pub record PartedAt (g : Objects Obj) (before : List Living) (o : Living) (behind : List Living) (ls : List Live) : Type 0 where
  pub front : List Live
  pub live : Live
  pub back : List Live
  pub all : ls ≡ front ++ live ∷ back
  pub fronts : AreOpensOf g before front
  pub is : IsLivingOf g o live
  pub backs : AreOpensOf g behind back

one_first : (g : Objects Obj) (before : List Living) (o : Living) (behind : List Living) (ls front back : List Live) → ls ≡ front ++ back → AreOpensOf g before front → AreOpensOf g (o ∷ behind) back → PartedAt g before o behind ls
one_first g before o behind ls front [] e h k = absurd k
one_first g before o behind ls front (l ∷ back) e h k = record { front = front; live = l; back = back; all = e; fronts = h; is = k.0; backs = k.1 }

pub opens_part_at : (g : Objects Obj) (before : List Living) (o : Living) (behind : List Living) (ls : List Live) → AreOpensOf g (before ++ o ∷ behind) ls → PartedAt g before o behind ls
opens_part_at g before o behind ls h = let p = opens_part g before (o ∷ behind) ls h in one_first g before o behind ls p.front p.back p.all p.fronts p.backs

-- on another graph, where each stays
pub opens_move : (g h : Objects Obj) (P : Living → Type 0) → ((o : Living) (l : Live) → P o → IsLivingOf g o l → IsLivingOf h o l) → (os : List Living) (ls : List Live) → AllByRecursion P os → AreOpensOf g os ls → AreOpensOf h os ls
opens_move g h P f [] [] a k = tt
opens_move g h P f [] (l ∷ ls) a k = absurd k
opens_move g h P f (o ∷ os) [] a k = absurd k
opens_move g h P f (o ∷ os) (l ∷ ls) a k = (f o l a.0 k.0, opens_move g h P f os ls a.1 k.1)

-- APART

other_way : (xs ys : List ℕ) → AreOthers xs ys → AreOthers ys xs
other_way xs ys h x o = by (is_one_of ys x) refl
  where
    by : (b : Bool) → is_one_of ys x ≡ b → is_one_of ys x ≡ false
    by false e = e
    by true e = absurd (let no : true ≡ false = sym o ∙ h x e in cc)

pub record AreAround (before : List Living) (o : Living) (behind : List Living) : Type 0 where
  pub front : AllByRecursion (IsApartFrom (objects_ids o.objects)) before
  pub back : AllByRecursion (IsApartFrom (objects_ids o.objects)) behind
  pub rest : AreApart (before ++ behind)

pub apart_around : (before : List Living) (o : Living) (behind : List Living) → AreApart (before ++ o ∷ behind) → AreAround before o behind
apart_around [] o behind h = record { front = tt; back = h.0; rest = h.1 }
apart_around (p ∷ before) o behind h =
    let r = apart_around before o behind h.1 in
    let far = all_at (IsApartFrom (objects_ids p.objects)) before o behind h.0 in
    record {
      front = (other_way (objects_ids p.objects) (objects_ids o.objects) far, r.front);
      back = r.back;
      rest = (all_but (IsApartFrom (objects_ids p.objects)) before o behind h.0, r.rest);
    }

-- one more at the end, which is apart from all
pub apart_more : (os : List Living) (o : Living) → AreApart os → AllByRecursion (IsApartFrom (objects_ids o.objects)) os → AreApart (os ++ o ∷ [])
apart_more [] o h k = (tt, tt)
apart_more (p ∷ os) o h k =
    (all_append (IsApartFrom (objects_ids p.objects)) os (o ∷ []) h.0 (other_way (objects_ids o.objects) (objects_ids p.objects) k.0, tt), apart_more os o h.1 k.1)

-- RISING

rising_less : (least low most : ℕ) (os : List Living) → least ≤ low → AreRising low most os → AreRising least most os
rising_less least low most [] i h = tt
rising_less least low most (o ∷ os) i h = (let j = h.0 in omega (arith, i, j), h.1, h.2)

pub rising_without : (least most : ℕ) (before : List Living) (o : Living) (behind : List Living) → AreRising least most (before ++ o ∷ behind) → AreRising least most (before ++ behind)
rising_without least most [] o behind h = rising_less least (o.speaker.number + 1) most behind (let i = h.0 in omega (arith, i)) h.2
rising_without least most (p ∷ before) o behind h = (h.0, h.1, rising_without (p.speaker.number + 1) most before o behind h.2)

pub rising_more : (least most : ℕ) (os : List Living) (o : Living) → least ≤ most → o.speaker.number ≡ most → AreRising least most os → AreRising least (most + 1) (os ++ o ∷ [])
rising_more least most [] o i e h = (omega (arith, i, e), omega (arith, e), tt)
rising_more least most (p ∷ os) o i e h = (h.0, let j = h.1 in omega (arith, j), rising_more (p.speaker.number + 1) most os o (let j = h.1 in omega (arith, j)) e h.2)

-- at least the least of them, and below the most
pub rising_within : (least most : ℕ) (before : List Living) (o : Living) (behind : List Living) → AreRising least most (before ++ o ∷ behind) → (least ≤ o.speaker.number) × (o.speaker.number < most)
rising_within least most [] o behind h = (h.0, h.1)
rising_within least most (p ∷ before) o behind h = let r = rising_within (p.speaker.number + 1) most before o behind h.2 in (let i = r.0 in let j = h.0 in omega (arith, i, j), r.1)

above_least : (least most : ℕ) (os : List Living) → AreRising least most os → AllByRecursion (λ o. least ≤ o.speaker.number) os
above_least least most [] h = tt
above_least least most (o ∷ os) h = (h.0, all_map (λ p. o.speaker.number + 1 ≤ p.speaker.number) (λ p. least ≤ p.speaker.number) os (λ p i. let j = h.0 in omega (arith, i, j)) (above_least (o.speaker.number + 1) most os h.2))

abbrev pub HasOtherNumber : Living → Living → Type 0
HasOtherNumber o p = p.speaker.number ≡ o.speaker.number → ⊥

-- no other has its number
pub rising_differ : (least most : ℕ) (before : List Living) (o : Living) (behind : List Living) → AreRising least most (before ++ o ∷ behind) → AllByRecursion (HasOtherNumber o) before × AllByRecursion (HasOtherNumber o) behind
rising_differ least most [] o behind h =
    (tt, all_map (λ p. o.speaker.number + 1 ≤ p.speaker.number) (HasOtherNumber o) behind (λ p i e. absurd (omega (arith, i, e))) (above_least (o.speaker.number + 1) most behind h.2))
rising_differ least most (p ∷ before) o behind h =
    let r = rising_differ (p.speaker.number + 1) most before o behind h.2 in
    let i = (rising_within (p.speaker.number + 1) most before o behind h.2).0 in
    ((λ e. absurd (omega (arith, i, e)), r.0), r.1)

-- COUNTED

pub count_without : {A : Type 0} (f : A → ℕ) (xs : List A) (y : A) (ys : List A) (most : ℕ) → sum_by f (xs ++ y ∷ ys) ≤ most → sum_by f (xs ++ ys) ≤ most
count_without f xs y ys most i = let a = sum_by-append f xs ys in let b = sum_by-append f xs (y ∷ ys) in let d = sum_by-cons f y ys in omega (arith, a, b, d, i)

pub count_more : {A : Type 0} (f : A → ℕ) (xs : List A) (y : A) → sum_by f (xs ++ y ∷ []) ≡ sum_by f xs + f y
count_more f xs y = sum_by_push f xs y
