-- Bytes without the zero bytes that they end with.
use Rattle.std.proofs.Common.{◌≡◌, ◌∙◌, ap, sym, refl, arith, ℕ, zero, suc, ◌-◌, ◌<◌, ◌≤◌, List, [], ◌∷◌, ◌++◌, length, get_or, take, Bool, true, false, ◌&&◌, length-append}
use Rattle.std.specs.Prelude.{◌==◌, if◌then◌else◌}
use Rattle.std.proofs.lemmas.Bool.{and_parts}
use Rattle.std.proofs.lemmas.Bool.Decides.{nat_tests}
use Rattle.nb_settings.specs.Nulls.{without_nulls, ends_in_null}
use Rattle.nb_settings.proofs.FindLemmas.{either_way}

-- a zero byte at the end goes
nulls_gone : (bytes : List ℕ) → without_nulls (bytes ++ 0 ∷ []) ≡ without_nulls bytes
nulls_gone [] = refl
nulls_gone (b ∷ bytes) = ap (λ (rest : List ℕ). if (b == 0) && (length rest == 0) then [] else b ∷ rest) (nulls_gone bytes)

not_none : (n : ℕ) → 0 < n → (n == 0) ≡ false
not_none n some = either_way (n == 0)
    (λ on. (let wrong : n ≡ 0 = grind (arith, nat_tests) in absurd (omega arith)))
    (λ off. off)

some_left : (bytes : List ℕ) (b : ℕ) → (length (bytes ++ b ∷ []) == 0) ≡ false
some_left bytes b =
    let long = length-append bytes (b ∷ []) in
    not_none (length (bytes ++ b ∷ [])) (omega arith)

and_false : (a : Bool) → (a && false) ≡ false
and_false true = refl
and_false false = refl

-- another byte stays
nulls_end : (bytes : List ℕ) (b : ℕ) → (b == 0) ≡ false → without_nulls (bytes ++ b ∷ []) ≡ bytes ++ b ∷ []
nulls_end [] b other = rw other refl
nulls_end (c ∷ bytes) b other = rw (nulls_end bytes b other, some_left bytes b, and_false (c == 0)) refl

one_left : (bytes : List ℕ) (b : ℕ) → 0 ≡ length bytes → b ∷ bytes ≡ b ∷ []
one_left [] b none = refl
one_left (c ∷ bytes) b none = absurd (omega (arith, none))

split_end : (bytes : List ℕ) (n : ℕ) → length bytes ≡ suc n → bytes ≡ take n bytes ++ get_or bytes n 0 ∷ []
split_end [] n long = absurd (omega (arith, long))
split_end (b ∷ bytes) zero long = one_left bytes b (omega (arith, long))
split_end (b ∷ bytes) (suc n) long = ap (λ (bs : List ℕ). b ∷ bs) (split_end bytes n (omega (arith, long)))

-- without the zero byte at the end the rest is the same
pub nulls_shorter : (bytes : List ℕ) → ends_in_null bytes ≡ true → without_nulls (take (length bytes - 1) bytes) ≡ without_nulls bytes
nulls_shorter [] on = absurd cc
nulls_shorter (b ∷ bytes) on =
    let few : length (b ∷ bytes) - 1 ≡ length bytes = omega arith in
    let split = split_end (b ∷ bytes) (length bytes) (omega arith) in
    let null : get_or (b ∷ bytes) (length bytes) 0 ≡ 0 = grind (arith, nat_tests) in
    ap (λ (k : ℕ). without_nulls (take k (b ∷ bytes))) few
    ∙ sym (nulls_gone (take (length bytes) (b ∷ bytes)))
    ∙ sym (ap without_nulls (split ∙ ap (λ (x : ℕ). take (length bytes) (b ∷ bytes) ++ x ∷ []) null))

-- what doesn't end in a zero byte stays
pub nulls_none : (bytes : List ℕ) → ends_in_null bytes ≡ false → without_nulls bytes ≡ bytes
nulls_none [] off = refl
nulls_none (b ∷ bytes) off =
    let split = split_end (b ∷ bytes) (length bytes) (omega arith) in
    ap without_nulls split ∙ nulls_end (take (length bytes) (b ∷ bytes)) (get_or (b ∷ bytes) (length bytes) 0) off ∙ sym split

pub nulls_fewer : (bytes : List ℕ) → length (without_nulls bytes) ≤ length bytes
nulls_fewer [] = omega arith
nulls_fewer (b ∷ bytes) =
    let ih = nulls_fewer bytes in
    either_way ((b == 0) && (length (without_nulls bytes) == 0)) (λ on. rw on (omega arith)) (λ off. rw off (omega arith))

none_at : (bytes : List ℕ) (i : ℕ) → length bytes ≡ 0 → get_or bytes i 0 ≡ 0
none_at [] i none = refl
none_at (b ∷ bytes) i none = absurd (omega (arith, none))

gone_at : (b : ℕ) (bytes : List ℕ) (i : ℕ) → b ≡ 0 → get_or bytes (i - 1) 0 ≡ 0 → get_or (b ∷ bytes) i 0 ≡ 0
gone_at b bytes zero is rest = is
gone_at b bytes (suc i) is rest =
    let e : suc i - 1 ≡ i = omega arith in
    sym (ap (λ (k : ℕ). get_or bytes k 0) e) ∙ rest

stays_at : (b : ℕ) (kept bytes : List ℕ) (i : ℕ) → ((k : ℕ) → get_or kept k 0 ≡ get_or bytes k 0) → get_or (b ∷ kept) i 0 ≡ get_or (b ∷ bytes) i 0
stays_at b kept bytes zero same = refl
stays_at b kept bytes (suc i) same = same i

-- the bytes that are left stay as they are, and those that go are zero
pub nulls_kept : (bytes : List ℕ) (i : ℕ) → get_or (without_nulls bytes) i 0 ≡ get_or bytes i 0
nulls_kept [] i = refl
nulls_kept (b ∷ bytes) i =
    either_way ((b == 0) && (length (without_nulls bytes) == 0))
    (λ on. (
    let parts = and_parts (b == 0) (length (without_nulls bytes) == 0) on in
    let is : b ≡ 0 = grind (arith, nat_tests, parts.0) in
    let none : length (without_nulls bytes) ≡ 0 = grind (arith, nat_tests, parts.1) in
    rw on (sym (gone_at b bytes i is (sym (nulls_kept bytes (i - 1)) ∙ none_at (without_nulls bytes) (i - 1) none)))))
    (λ off. rw off (stays_at b (without_nulls bytes) bytes i (nulls_kept bytes)))
