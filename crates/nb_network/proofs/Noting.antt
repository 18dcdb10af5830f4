-- With what it is known to answer an open stands among the others as before.
use Rattle.std.proofs.Common.{◌≡◌, inl, inr, ℕ, ◌+◌, ◌≤◌, List, [], ◌∷◌, ◌++◌, map, sym, ◌∙◌, ap, arith}
use Rattle.std.specs.List.{AllByRecursion, sum_by}
use Rattle.std.proofs.lemmas.List.{map-append}
use Rattle.std.proofs.lemmas.List.Sums.{sum_by-append, sum_by-cons}
use Rattle.nb_open.specs.Objects.{objects_ids}
use Rattle.nb_network.specs.declared.living.Living.{Living}
use Rattle.nb_network.specs.Drives.{DriveNews, noted}
use Rattle.nb_network.specs.Many.{AreApart, AreRising, HasOwnPort, IsApartFrom, IsOfNumber, lease_count_of}
use Rattle.nb_network.proofs.Lists.{all_append, all_back, all_front}

module _ (heard : DriveNews) where
  pub all_noted : (P : Living → Type 0) (before : List Living) (o : Living) (behind : List Living) → (P o → P (noted heard o)) → AllByRecursion P (before ++ o ∷ behind) → AllByRecursion P (before ++ noted heard o ∷ behind)
  all_noted P before o behind f h =
      let back = all_back P before (o ∷ behind) h in all_append P before (noted heard o ∷ behind) (all_front P before (o ∷ behind) h) (f back.0, back.1)

  pub map_noted : {B : Type 0} (f : Living → B) (before : List Living) (o : Living) (behind : List Living) → f o ≡ f (noted heard o) → map f (before ++ o ∷ behind) ≡ map f (before ++ noted heard o ∷ behind)
  map_noted f before o behind e = map-append f before (o ∷ behind) ∙ ap (λ z. map f before ++ z ∷ map f behind) e ∙ sym (map-append f before (noted heard o ∷ behind))

  pub rising_noted : (least most : ℕ) (before : List Living) (o : Living) (behind : List Living) → AreRising least most (before ++ o ∷ behind) → AreRising least most (before ++ noted heard o ∷ behind)
  rising_noted least most [] o behind h = h
  rising_noted least most (p ∷ before) o behind h = (h.0, h.1, rising_noted (p.speaker.number + 1) most before o behind h.2)

  pub port_noted : (w : ℕ) (o : Living) → HasOwnPort w o → HasOwnPort w (noted heard o)
  port_noted w o h = record { port = h.port; protocol = h.protocol }

  pub leases_noted : (before : List Living) (o : Living) (behind : List Living) → sum_by lease_count_of (before ++ o ∷ behind) ≤ 1 → sum_by lease_count_of (before ++ noted heard o ∷ behind) ≤ 1
  leases_noted before o behind i =
      let a = sum_by-append lease_count_of before (o ∷ behind) in
      let b = sum_by-append lease_count_of before (noted heard o ∷ behind) in
      let c = sum_by-cons lease_count_of o behind in
      let d = sum_by-cons lease_count_of (noted heard o) behind in
      omega (arith, a, b, c, d, i)

  pub apart_noted : (before : List Living) (o : Living) (behind : List Living) → AreApart (before ++ o ∷ behind) → AreApart (before ++ noted heard o ∷ behind)
  apart_noted [] o behind h = h
  apart_noted (p ∷ before) o behind h = (all_noted (IsApartFrom (objects_ids p.objects)) before o behind (λ far. far) h.0, apart_noted before o behind h.1)

  pub of_number_noted : (k y : ℕ) (before : List Living) (o : Living) (behind : List Living) → IsOfNumber k y (before ++ o ∷ behind) → IsOfNumber k y (before ++ noted heard o ∷ behind)
  of_number_noted k y [] o behind i = i
  of_number_noted k y (p ∷ before) o behind (inl i) = inl i
  of_number_noted k y (p ∷ before) o behind (inr i) = inr (of_number_noted k y before o behind i)
