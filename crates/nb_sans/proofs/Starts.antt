-- Lists that begin with a list.
use Rattle.std.proofs.Common.{◌≡◌, ℕ, zero, suc, List, [], ◌∷◌, ◌++◌, drop, refl, ap, ◌∙◌, sym, append_assoc, append-nil}

-- the second begins with the first
pub record Starts {A : Type 0} (xs ys : List A) : Type 0 where
  pub rest : List A
  pub is : ys ≡ xs ++ rest

pub starts_itself : {A : Type 0} (xs : List A) → Starts xs xs
starts_itself xs = record { rest = []; is = sym (append-nil xs) }

pub starts_all : {A : Type 0} (xs : List A) → Starts [] xs
starts_all xs = record { rest = xs; is = refl }

pub starts_then : {A : Type 0} (xs ys zs : List A) → Starts xs ys → Starts ys zs → Starts xs zs
starts_then xs ys zs a b = record { rest = a.rest ++ b.rest; is = b.is ∙ ap (λ l. l ++ b.rest) a.is ∙ append_assoc xs a.rest b.rest }

-- with more after the second, and with the same before both
pub starts_more : {A : Type 0} (xs ys more : List A) → Starts xs ys → Starts xs (ys ++ more)
starts_more xs ys more a = starts_then xs ys (ys ++ more) a (record { rest = more; is = refl })

pub starts_after : {A : Type 0} (before xs ys : List A) → Starts xs ys → Starts (before ++ xs) (before ++ ys)
starts_after before xs ys a = record { rest = a.rest; is = ap (λ l. before ++ l) a.is ∙ sym (append_assoc before xs a.rest) }

drop_more : {A : Type 0} (n : ℕ) (xs more : List A) → Starts (drop n xs) (drop n (xs ++ more))
drop_more zero xs more = record { rest = more; is = refl }
drop_more (suc n) [] more = starts_all (drop (suc n) more)
drop_more (suc n) (x ∷ xs) more = drop_more n xs more

pub starts_drop : {A : Type 0} (n : ℕ) (xs ys : List A) → Starts xs ys → Starts (drop n xs) (drop n ys)
starts_drop n xs ys a = let more = drop_more n xs a.rest in record { rest = more.rest; is = ap (drop n) a.is ∙ more.is }
