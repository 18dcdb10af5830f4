-- The ports of the opens that live are different, so that a message is for one of them alone.
use Rattle.std.proofs.Common.{◌≡◌, ℕ, ◌+◌, ◌<◌, ◌≤◌, ◌==◌, ◌&&◌, ◌%◌, Bool, true, false, cond, not, option_map, List, [], ◌∷◌, ◌++◌, map, Some, None, refl, sym, ◌∙◌, ap, arith, eq-eqb}
use Rattle.std.specs.List.{AllByRecursion, find, sum_by}
use Rattle.std.proofs.lemmas.Bool.{eqb-true}
use Rattle.std.proofs.lemmas.List.Sums.{sum_by-append, sum_by-cons}
use Rattle.nb_stack.specs.Bound.{is_port, owner_of, without}
use Rattle.nb_stack.specs.declared.ports.Port.{Port}
use Rattle.nb_teller.specs.Speakers.{carrier_number}
use Rattle.nb_chains.specs.declared.kind.ChainKind.{ChainKind}
use Rattle.nb_chains.specs.declared.kind.ChainKind.TheVariants.{File, Name, Lease, Echo, Drive}
use Rattle.nb_open.specs.declared.objects.OpenObjects.{OpenObjects}
use Rattle.nb_open.specs.declared.objects.OpenObjects.TheVariants.{Chain, Web}
use Rattle.nb_open.specs.declared.objects.OpenObjects.TheVariants as joined
use Rattle.nb_network.specs.declared.living.Living.{Living}
use Rattle.nb_network.specs.Many.{AreRising, HasOwnPort, bound_port, lease_count, lease_count_of, leases_in, own_port_for, own_protocol_for, port_for, protocol_for}
use Rattle.nb_network.proofs.Lists.{HasOtherNumber, all_at, all_back, all_both, all_front, all_map, rising_differ, rising_within}

-- TESTS

pub either_test : {P : Type 0} (b : Bool) → (b ≡ true → P) → (b ≡ false → P) → P
either_test true f g = f refl
either_test false f g = g refl

pub and_false : (b : Bool) → (b && false) ≡ false
and_false true = refl
and_false false = refl

pub and_true : (a b : Bool) → (a && b) ≡ true → (a ≡ true) × (b ≡ true)
and_true true b h = (refl, h)
and_true false b h = absurd (cc)

-- THE PORT OF NONE OF THESE

-- this port isn't the open's
abbrev pub IsElsewhere : ℕ → ℕ → Living → Type 0
IsElsewhere proto port o = carrier_number o.speaker.carrier ≡ proto → o.speaker.own_port ≡ port → ⊥

not_port : (proto port : ℕ) (o : Living) → IsElsewhere proto port o → is_port proto port (bound_port o) ≡ false
not_port proto port o h =
    either_test (carrier_number o.speaker.carrier == proto)
    (λ e. either_test (o.speaker.own_port == port)
    (λ f. absurd (h (eqb-true (carrier_number o.speaker.carrier) proto e) (eqb-true o.speaker.own_port port f)))
    (λ f. ap (λ b. (carrier_number o.speaker.carrier == proto) && b) f ∙ and_false (carrier_number o.speaker.carrier == proto)))
    (λ e. ap (λ b. b && (o.speaker.own_port == port)) e)

is_its_port : (o : Living) → is_port (carrier_number o.speaker.carrier) o.speaker.own_port (bound_port o) ≡ true
is_its_port o =
    ap (λ b. b && (o.speaker.own_port == o.speaker.own_port)) (eq-eqb (carrier_number o.speaker.carrier) (carrier_number o.speaker.carrier) refl)
    ∙ eq-eqb o.speaker.own_port o.speaker.own_port refl

elsewhere : (proto port : ℕ) (o : Living) → is_port proto port (bound_port o) ≡ false → IsElsewhere proto port o
elsewhere proto port o h e f =
    absurd (let yes : is_port proto port (bound_port o) ≡ true = ap (λ b. b && (o.speaker.own_port == port)) (eq-eqb (carrier_number o.speaker.carrier) proto e) ∙ eq-eqb o.speaker.own_port port f in
    let no : true ≡ false = sym yes ∙ h in cc)

owner_first : (proto port : ℕ) (o : Living) (os : List Living) → is_port proto port (bound_port o) ≡ true → owner_of proto port (map bound_port (o ∷ os)) ≡ Some o.speaker.number
owner_first proto port o os e = ap (λ b. option_map (λ (p : Port). p.to) (cond b (Some (bound_port o)) (find (is_port proto port) (map bound_port os)))) e

owner_next : (proto port : ℕ) (o : Living) (os : List Living) → is_port proto port (bound_port o) ≡ false → owner_of proto port (map bound_port (o ∷ os)) ≡ owner_of proto port (map bound_port os)
owner_next proto port o os e = ap (λ b. option_map (λ (p : Port). p.to) (cond b (Some (bound_port o)) (find (is_port proto port) (map bound_port os)))) e

-- nobody's port is no open's
pub owned_by_none : (proto port : ℕ) (os : List Living) → owner_of proto port (map bound_port os) ≡ None → AllByRecursion (IsElsewhere proto port) os
owned_by_none proto port [] h = tt
owned_by_none proto port (o ∷ os) h =
    either_test (is_port proto port (bound_port o))
    (λ e. absurd (let some : Some o.speaker.number ≡ None = sym (owner_first proto port o os e) ∙ h in cc))
    (λ e. (elsewhere proto port o e, owned_by_none proto port os (sym (owner_next proto port o os e) ∙ h)))

-- none of them has that number
owned_by_other : (proto port to : ℕ) (os : List Living) → AllByRecursion (λ o. o.speaker.number ≡ to → ⊥) os → owner_of proto port (map bound_port os) ≡ Some to → ⊥
owned_by_other proto port to [] a h = absurd (cc)
owned_by_other proto port to (o ∷ os) a h =
    either_test (is_port proto port (bound_port o))
    (λ e. a.0 (let same : Some o.speaker.number ≡ Some to = sym (owner_first proto port o os e) ∙ h in cc))
    (λ e. owned_by_other proto port to os a.1 (sym (owner_next proto port o os e) ∙ h))

-- the owner of a port has that port
pub owned_by_one : (proto port : ℕ) (before : List Living) (o : Living) (behind : List Living) → AllByRecursion (HasOtherNumber o) before → AllByRecursion (HasOtherNumber o) behind →
    owner_of proto port (map bound_port (before ++ o ∷ behind)) ≡ Some o.speaker.number → (carrier_number o.speaker.carrier ≡ proto) × (o.speaker.own_port ≡ port)
owned_by_one proto port [] o behind a b h =
    either_test (is_port proto port (bound_port o))
    (λ e. let t = and_true (carrier_number o.speaker.carrier == proto) (o.speaker.own_port == port) e in (eqb-true (carrier_number o.speaker.carrier) proto t.0, eqb-true o.speaker.own_port port t.1))
    (λ e. absurd (owned_by_other proto port o.speaker.number behind b (sym (owner_next proto port o behind e) ∙ h)))
owned_by_one proto port (p ∷ before) o behind a b h =
    either_test (is_port proto port (bound_port p))
    (λ e. absurd (a.0 (let same : Some p.speaker.number ≡ Some o.speaker.number = sym (owner_first proto port p (before ++ o ∷ behind) e) ∙ h in cc)))
    (λ e. owned_by_one proto port before o behind a.1 b (sym (owner_next proto port p (before ++ o ∷ behind) e) ∙ h))

-- no owner has a number that none of them has
pub owned_by_nobody : (proto port to : ℕ) (os : List Living) → AllByRecursion (λ o. o.speaker.number ≡ to → ⊥) os → owner_of proto port (map bound_port os) ≡ Some to → ⊥
owned_by_nobody = owned_by_other

-- A PORT IS FREED

kept_ports : (proto port : ℕ) (os : List Living) → AllByRecursion (IsElsewhere proto port) os → without proto port (map bound_port os) ≡ map bound_port os
kept_ports proto port [] h = refl
kept_ports proto port (o ∷ os) h =
    ap (λ b. cond (not b) (bound_port o ∷ without proto port (map bound_port os)) (without proto port (map bound_port os))) (not_port proto port o h.0)
    ∙ ap (λ z. bound_port o ∷ z) (kept_ports proto port os h.1)

pub freed_port : (before : List Living) (o : Living) (behind : List Living) → AllByRecursion (IsElsewhere (carrier_number o.speaker.carrier) o.speaker.own_port) before →
    AllByRecursion (IsElsewhere (carrier_number o.speaker.carrier) o.speaker.own_port) behind →
    without (carrier_number o.speaker.carrier) o.speaker.own_port (map bound_port (before ++ o ∷ behind)) ≡ map bound_port (before ++ behind)
freed_port [] o behind a b =
    let proto = carrier_number o.speaker.carrier in
    let port = o.speaker.own_port in
    ap (λ t. cond (not t) (bound_port o ∷ without proto port (map bound_port behind)) (without proto port (map bound_port behind))) (is_its_port o)
    ∙ kept_ports proto port behind b
freed_port (p ∷ before) o behind a b =
    let proto = carrier_number o.speaker.carrier in
    let port = o.speaker.own_port in
    let rest = without proto port (map bound_port (before ++ o ∷ behind)) in
    ap (λ t. cond (not t) (bound_port p ∷ rest) rest) (not_port proto port p a.0)
    ∙ ap (λ z. bound_port p ∷ z) (freed_port before o behind a.1 b)

-- THEY ARE DIFFERENT

same_number : (w n m : ℕ) → n < 16384 → m < 16384 → (w + n) % 16384 ≡ (w + m) % 16384 → m ≡ n
same_number w n m i j e = omega arith

own_differ : (w n m : ℕ) → n < 16384 → m < 16384 → (m ≡ n → ⊥) → 49152 + (w + n) % 16384 ≡ 49152 + (w + m) % 16384 → ⊥
own_differ w n m i j d e = d (same_number w n m i j (omega (arith, e)))

-- no two kinds of different numbers have the same port, but for two leases
kinds_differ : (w : ℕ) (j k : ChainKind) (n m : ℕ) → n < 16384 → m < 16384 → (m ≡ n → ⊥) → lease_count j + lease_count k ≤ 1 → protocol_for j ≡ protocol_for k → port_for j w n ≡ port_for k w m → ⊥
kinds_differ w File File n m i j d l p e = own_differ w n m i j d e
kinds_differ w File Name n m i j d l p e = own_differ w n m i j d e
kinds_differ w File Lease n m i j d l p e = omega (arith, e)
kinds_differ w File Echo n m i j d l p e = omega (arith, p)
kinds_differ w File Drive n m i j d l p e = own_differ w n m i j d e
kinds_differ w Name File n m i j d l p e = own_differ w n m i j d e
kinds_differ w Name Name n m i j d l p e = own_differ w n m i j d e
kinds_differ w Name Lease n m i j d l p e = omega (arith, e)
kinds_differ w Name Echo n m i j d l p e = omega (arith, p)
kinds_differ w Name Drive n m i j d l p e = own_differ w n m i j d e
kinds_differ w Lease File n m i j d l p e = omega (arith, e)
kinds_differ w Lease Name n m i j d l p e = omega (arith, e)
kinds_differ w Lease Lease n m i j d l p e = omega (arith, l)
kinds_differ w Lease Echo n m i j d l p e = omega (arith, p)
kinds_differ w Lease Drive n m i j d l p e = omega (arith, e)
kinds_differ w Echo File n m i j d l p e = omega (arith, p)
kinds_differ w Echo Name n m i j d l p e = omega (arith, p)
kinds_differ w Echo Lease n m i j d l p e = omega (arith, p)
kinds_differ w Echo Echo n m i j d l p e = d (sym e)
kinds_differ w Echo Drive n m i j d l p e = omega (arith, p)
kinds_differ w Drive File n m i j d l p e = own_differ w n m i j d e
kinds_differ w Drive Name n m i j d l p e = own_differ w n m i j d e
kinds_differ w Drive Lease n m i j d l p e = omega (arith, e)
kinds_differ w Drive Echo n m i j d l p e = omega (arith, p)
kinds_differ w Drive Drive n m i j d l p e = own_differ w n m i j d e

-- no chain speaks by TCP
not_by_tcp : (k : ChainKind) → protocol_for k ≡ 6 → ⊥
not_by_tcp File p = omega (arith, p)
not_by_tcp Name p = omega (arith, p)
not_by_tcp Lease p = omega (arith, p)
not_by_tcp Echo p = omega (arith, p)
not_by_tcp Drive p = omega (arith, p)

objects_differ : (w : ℕ) (x y : OpenObjects) (n m : ℕ) → n < 16384 → m < 16384 → (m ≡ n → ⊥) → leases_in x + leases_in y ≤ 1 → own_protocol_for x ≡ own_protocol_for y → own_port_for x w n ≡ own_port_for y w m → ⊥
objects_differ w (Chain j c) (Chain k d) n m a b f l p e = kinds_differ w j k n m a b f l p e
objects_differ w (Chain j c) (Web port own d) n m a b f l p e = not_by_tcp j p
objects_differ w (Chain j c) (joined.Drive port own d) n m a b f l p e = not_by_tcp j p
objects_differ w (Web port own c) (Chain k d) n m a b f l p e = not_by_tcp k (sym p)
objects_differ w (Web port own c) (Web port' own' d) n m a b f l p e = own_differ w n m a b f e
objects_differ w (Web port own c) (joined.Drive port' own' d) n m a b f l p e = own_differ w n m a b f e
objects_differ w (joined.Drive port own c) (Chain k d) n m a b f l p e = not_by_tcp k (sym p)
objects_differ w (joined.Drive port own c) (Web port' own' d) n m a b f l p e = own_differ w n m a b f e
objects_differ w (joined.Drive port own c) (joined.Drive port' own' d) n m a b f l p e = own_differ w n m a b f e

-- how many of them count at most
each_count : {A : Type 0} (f : A → ℕ) (xs : List A) (most : ℕ) → sum_by f xs ≤ most → AllByRecursion (λ x. f x ≤ most) xs
each_count f [] most i = tt
each_count f (x ∷ xs) most i = let s = sum_by-cons f x xs in (omega (arith, s, i), each_count f xs most (omega (arith, s, i)))

counts_around : {A : Type 0} (f : A → ℕ) (before : List A) (x : A) (behind : List A) → sum_by f (before ++ x ∷ behind) ≤ 1 → (sum_by f before + f x ≤ 1) × (f x + sum_by f behind ≤ 1)
counts_around f before x behind i = let a = sum_by-append f before (x ∷ behind) in let b = sum_by-cons f x behind in (omega (arith, a, b, i), omega (arith, a, b, i))

below_most : (least most : ℕ) (os : List Living) → AreRising least most os → AllByRecursion (λ o. o.speaker.number < most) os
below_most least most [] h = tt
below_most least most (o ∷ os) h = (h.1, below_most (o.speaker.number + 1) most os h.2)

-- no other open has its port
abbrev pub IsElsewhereOf : Living → Living → Type 0
IsElsewhereOf o p = IsElsewhere (carrier_number o.speaker.carrier) o.speaker.own_port p

one_elsewhere : (w : ℕ) (o p : Living) → HasOwnPort w o → HasOwnPort w p → o.speaker.number < 16384 → p.speaker.number < 16384 → HasOtherNumber o p → lease_count_of o + lease_count_of p ≤ 1 → IsElsewhereOf o p
one_elsewhere w o p a b i j d l e f =
    objects_differ w o.objects p.objects o.speaker.number p.speaker.number i j d l (sym a.protocol ∙ sym e ∙ b.protocol) (sym a.port ∙ sym f ∙ b.port)

pub record StandsAlone (before : List Living) (o : Living) (behind : List Living) : Type 0 where
  pub front : AllByRecursion (IsElsewhereOf o) before
  pub back : AllByRecursion (IsElsewhereOf o) behind
  pub fronts : AllByRecursion (HasOtherNumber o) before
  pub backs : AllByRecursion (HasOtherNumber o) behind

abbrev pub IsFitting : ℕ → ℕ → Living → Type 0
IsFitting w most o = HasOwnPort w o × (o.speaker.number < most)

module _ (w most : ℕ) (o : Living) (i : o.speaker.number < 16384) (few : most ≤ 16384) (a : HasOwnPort w o) where
  each_elsewhere : (os : List Living) → AllByRecursion (IsFitting w most) os → AllByRecursion (HasOtherNumber o) os → AllByRecursion (λ p. lease_count_of o + lease_count_of p ≤ 1) os → AllByRecursion (IsElsewhereOf o) os
  each_elsewhere os fit other count =
      all_both (IsFitting w most) (λ p. HasOtherNumber o p × (lease_count_of o + lease_count_of p ≤ 1)) (IsElsewhereOf o) os
      (λ p f c. one_elsewhere w o p a f.0 i (let j = f.1 in omega (arith, j, few)) c.0 c.1) fit
      (all_both (HasOtherNumber o) (λ p. lease_count_of o + lease_count_of p ≤ 1) (λ p. HasOtherNumber o p × (lease_count_of o + lease_count_of p ≤ 1)) os (λ p x y. (x, y)) other count)

pub stands_alone : (w opens : ℕ) (before : List Living) (o : Living) (behind : List Living) → opens ≤ 16384 → AreRising 0 opens (before ++ o ∷ behind) → AllByRecursion (HasOwnPort w) (before ++ o ∷ behind) →
    sum_by lease_count_of (before ++ o ∷ behind) ≤ 1 → StandsAlone before o behind
stands_alone w opens before o behind few rising own one =
    let differ = rising_differ 0 opens before o behind rising in
    let below = below_most 0 opens (before ++ o ∷ behind) rising in
    let fit = all_both (HasOwnPort w) (λ p. p.speaker.number < opens) (IsFitting w opens) (before ++ o ∷ behind) (λ p x y. (x, y)) own below in
    let i : o.speaker.number < 16384 = let r = (rising_within 0 opens before o behind rising).1 in omega (arith, r, few) in
    let a = all_at (HasOwnPort w) before o behind own in
    let c = counts_around lease_count_of before o behind one in
    let count : (most : ℕ) → lease_count_of o + most ≤ 1 → (os : List Living) → AllByRecursion (λ p. lease_count_of p ≤ most) os → AllByRecursion (λ p. lease_count_of o + lease_count_of p ≤ 1) os =
    λ most k os h. all_map (λ p. lease_count_of p ≤ most) (λ p. lease_count_of o + lease_count_of p ≤ 1) os (λ p x. omega (arith, x, k)) h in
    record {
      front = each_elsewhere w opens o i few a before (all_front (IsFitting w opens) before (o ∷ behind) fit) differ.0
          (count (sum_by lease_count_of before) (let x = c.0 in omega (arith, x)) before (each_count lease_count_of before (sum_by lease_count_of before) (omega arith)));
      back = each_elsewhere w opens o i few a behind (all_back (IsFitting w opens) before (o ∷ behind) fit).1 differ.1
          (count (sum_by lease_count_of behind) c.1 behind (each_count lease_count_of behind (sum_by lease_count_of behind) (omega arith)));
      fronts = differ.0;
      backs = differ.1;
    }
