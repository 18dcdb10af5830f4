-- What a list of options says is found at its first option.
use Rattle.std.proofs.Common.{◌≡◌, ℕ, ◌+◌, ◌*◌, ◌/◌, ◌%◌, ◌<◌, ◌^◌, List, [], ◌∷◌, ◌++◌, length, Option, Some, None, refl, sym, ap, subst, ◌∙◌, arith}
use Rattle.std.specs.Option.{option_or, IfSome}
use Rattle.std.specs.Int.{w16, to_be_bytes}
use Rattle.nb_wire.proofs.BytesLaws.{append_one}
use Rattle.nb_tcpseg.specs.Options.{OptionsSay, by_none, by_end, by_no_operation, by_option, mss_value}
use Rattle.nb_tcpseg.specs.SegmentText.{sent_options}

-- an option that is neither the end nor alone
pub option_says : (xs : List ℕ) (mss : Option ℕ) (kind : ℕ) (tail : List ℕ) (found : Option ℕ) → OptionsSay xs mss → xs ≡ kind ∷ tail → (kind ≡ 0 → ⊥) → (kind ≡ 1 → ⊥) → ((value rest : List ℕ) (later : Option ℕ) → tail ≡ (2 + length value) ∷ (value ++ rest) → OptionsSay rest later → found ≡ option_or (mss_value kind value) later) → found ≡ mss
option_says xs mss kind tail found (by_none options e) head zero one step = let impossible : [] ≡ kind ∷ tail = sym e ∙ head in cc
option_says xs mss kind tail found (by_end options padding e) head zero one step = let same : kind ∷ tail ≡ 0 ∷ padding = sym head ∙ e in let is : kind ≡ 0 = cc in absurd (zero is)
option_says xs mss kind tail found (by_no_operation options rest m e later) head zero one step = let same : kind ∷ tail ≡ 1 ∷ rest = sym head ∙ e in let is : kind ≡ 1 = cc in absurd (one is)
option_says xs mss kind tail found (by_option options own value rest later m e least says is) head zero one step =
    let same : kind ∷ tail ≡ own ∷ (2 + length value) ∷ (value ++ rest) = sym head ∙ e in
    let kinds : kind ≡ own = cc in
    let tails : tail ≡ (2 + length value) ∷ (value ++ rest) = cc in
    step value rest later tails says ∙ ap (λ (k : ℕ). option_or (mss_value k value) later) kinds ∙ sym is

-- the options that are sent say what they were made of
pub sent_says : (mss : Option ℕ) → ((m : ℕ) → mss ≡ Some m → m < 2 ^ 16) → OptionsSay (sent_options mss) mss
sent_says None fits = by_none [] refl
sent_says (Some m) fits =
    let small : m < 2 ^ 16 = fits m refl in
    let back : m ≡ 256 * (m / 256 % 256) + m % 256 = omega (arith, small) in
    by_option (sent_options (Some m)) 2 (to_be_bytes w16 m) [] None (Some m) refl (omega arith) (by_none [] refl) (ap Some back)

-- what a later list says holds of a list before it
pub some_more : (r : Option (Option ℕ)) (xs ys : List ℕ) → ((m : Option ℕ) → OptionsSay xs m → OptionsSay ys m) → IfSome r (λ m. OptionsSay xs m) → IfSome r (λ m. OptionsSay ys m)
some_more None xs ys more is = is
some_more (Some m) xs ys more is = more m is

-- a list without options says nothing
none_says : (xs : List ℕ) (mss : Option ℕ) → xs ≡ [] → OptionsSay xs mss → mss ≡ None
none_says xs mss none (by_none options e) = refl
none_says xs mss none (by_end options padding e) = refl
none_says xs mss none (by_no_operation options rest m e later) = let impossible : [] ≡ 1 ∷ rest = sym none ∙ e in cc
none_says xs mss none (by_option options kind value rest later m e least says is) =
    let impossible : [] ≡ kind ∷ (2 + length value) ∷ (value ++ rest) = sym none ∙ e in cc

-- what follows the end says nothing
end_says : (xs padding : List ℕ) (mss : Option ℕ) → xs ≡ 0 ∷ padding → OptionsSay xs mss → mss ≡ None
end_says xs padding mss head (by_none options e) = refl
end_says xs padding mss head (by_end options other e) = refl
end_says xs padding mss head (by_no_operation options rest m e later) =
    let same : 0 ∷ padding ≡ 1 ∷ rest = sym head ∙ e in let is : ◌≡◌ {A = ℕ} 0 1 = cc in absurd (omega (arith, is))
end_says xs padding mss head (by_option options kind value rest later m e least says is) =
    let same : 0 ∷ padding ≡ kind ∷ (2 + length value) ∷ (value ++ rest) = sym head ∙ e in let zero : 0 ≡ kind = cc in absurd (omega (arith, zero, least))

-- after a byte alone the rest says it
alone_says : (xs rest : List ℕ) (mss : Option ℕ) → xs ≡ 1 ∷ rest → OptionsSay xs mss → OptionsSay rest mss
alone_says xs rest mss head (by_none options e) = let impossible : [] ≡ 1 ∷ rest = sym e ∙ head in cc
alone_says xs rest mss head (by_end options padding e) =
    let same : 0 ∷ padding ≡ 1 ∷ rest = sym e ∙ head in let is : ◌≡◌ {A = ℕ} 0 1 = cc in absurd (omega (arith, is))
alone_says xs rest mss head (by_no_operation options other m e later) =
    let same : 1 ∷ other ≡ 1 ∷ rest = sym e ∙ head in let rests : other ≡ rest = cc in subst (λ (x : List ℕ). OptionsSay x mss) rests later
alone_says xs rest mss head (by_option options kind value other later m e least says is) =
    let same : kind ∷ (2 + length value) ∷ (value ++ other) ≡ 1 ∷ rest = sym e ∙ head in let one : kind ≡ 1 = cc in absurd (omega (arith, one, least))

-- a list of options says one thing
pub says_one : (xs : List ℕ) (m n : Option ℕ) → OptionsSay xs m → OptionsSay xs n → m ≡ n
says_one xs m n (by_none options e) there = sym (none_says xs n e there)
says_one xs m n (by_end options padding e) there = sym (end_says xs padding n e there)
says_one xs m n (by_no_operation options rest mss e later) there = says_one rest m n later (alone_says xs rest n e there)
says_one xs m n (by_option options kind value rest later mss e least says is) there =
    option_says xs n kind ((2 + length value) ∷ (value ++ rest)) m there e (λ zero. omega (arith, zero, least)) (λ one. omega (arith, one, least))
    (λ other rest2 later2 same says2.
    let lens : 2 + length value ≡ 2 + length other = cc in
    let joined : value ++ rest ≡ other ++ rest2 = cc in
    let parts = append_one value rest other rest2 (omega (arith, lens)) joined in
    let laters : later ≡ later2 = says_one rest later later2 says (subst (λ (x : List ℕ). OptionsSay x later2) (sym parts.1) says2) in
    is ∙ ap (λ (x : List ℕ). option_or (mss_value kind x) later) parts.0 ∙ ap (λ (x : Option ℕ). option_or (mss_value kind other) x) laters)
