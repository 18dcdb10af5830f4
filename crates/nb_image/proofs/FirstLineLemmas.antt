-- A script's first line, read from its magic word on.
use Rattle.std.proofs.Common.{◌≡◌, ℕ, zero, suc, Bool, true, false, cond, ◌&&◌, ◌==◌, List, [], ◌∷◌, ◌++◌, ◌+◌, ◌≤◌, length, take, drop, Option, Some, None, refl, sym, ◌∙◌, ap, subst, arith, add-one, nat_eq}
use Rattle.std.specs.Prelude.{codes, slice_get}
use Rattle.std.specs.List.{list_all, starts_with}
use Rattle.std.specs.Cmp.Lexicographic.{pointwise}
use Rattle.std.proofs.lemmas.Bool.{eqb-true, ne_eqb, false≢true}
use Rattle.std.proofs.lemmas.Bool.Decides.{nat_tests}
use Rattle.std.proofs.lemmas.List.{drop_at, take-take}
use Rattle.std.proofs.lemmas.Option.{none-some, same_Some}
use Rattle.nb_defs.specs.ScriptText.{is_line_feed, is_blank, pieces, onto_first, without_cr, is_first_line, begins_script}
use Rattle.nb_image.specs.Kinds.{is_script}
use Rattle.nb_image.specs.FirstLine.{ends_line, ends_blank}

abbrev first_of : List (List ℕ) → List ℕ
first_of [] = []
first_of (p ∷ ps) = p

abbrev first_line : List ℕ → List ℕ
first_line text = first_of (pieces is_line_feed text)

onto_is : (b : ℕ) (ps : List (List ℕ)) → first_of (onto_first b ps) ≡ b ∷ first_of ps
onto_is b [] = refl
onto_is b (p ∷ ps) = refl

-- a line feed ends the line, and another byte stands on it
at_feed : (b : ℕ) (bytes : List ℕ) → is_line_feed b ≡ true → first_line (b ∷ bytes) ≡ []
unfolding pieces
at_feed b bytes h = rw h refl

past_byte : (b : ℕ) (bytes : List ℕ) → is_line_feed b ≡ false → first_line (b ∷ bytes) ≡ b ∷ first_line bytes
unfolding pieces
past_byte b bytes h = rw h (onto_is b (pieces is_line_feed bytes))

abbrev are_blank : List ℕ → Bool
are_blank line = list_all is_blank (without_cr line)

-- a byte before the line's last one is no carriage return to drop
blank_cons : (b : ℕ) (line : List ℕ) → (b == 13) ≡ false → are_blank (b ∷ line) ≡ (is_blank b && are_blank line)
unfolding without_cr
blank_cons b [] h = rw h refl
blank_cons b (c ∷ line) h = refl

no_bytes : first_line [] ≡ []
unfolding pieces
no_bytes = refl

return_last : are_blank (13 ∷ []) ≡ true
unfolding without_cr
return_last = refl

-- a carriage return before another byte is no blank
return_within : (c : ℕ) (line : List ℕ) → are_blank (13 ∷ c ∷ line) ≡ false
unfolding without_cr
return_within c line = refl

-- after a carriage return the line must end
after_return : (bytes : List ℕ) → are_blank (13 ∷ first_line bytes) ≡ ends_line bytes
after_return [] = ap (λ line. are_blank (13 ∷ line)) no_bytes ∙ return_last
after_return (c ∷ bytes) = elim (is_line_feed c) as (λ f. is_line_feed c ≡ f → are_blank (13 ∷ first_line (c ∷ bytes)) ≡ f) [
  | true ↦ λ h. ap (λ line. are_blank (13 ∷ line)) (at_feed c bytes h) ∙ return_last
  | false ↦ λ h. ap (λ line. are_blank (13 ∷ line)) (past_byte c bytes h) ∙ return_within c (first_line bytes)
] refl

blank_nothing : are_blank [] ≡ true
unfolding without_cr
blank_nothing = refl

either : (blank rest : Bool) → (blank && rest) ≡ cond blank rest false
either true rest = refl
either false rest = refl

by_byte : (b : ℕ) (bytes : List ℕ) (feed return : Bool) → is_line_feed b ≡ feed → (b == 13) ≡ return → are_blank (first_line bytes) ≡ ends_blank bytes → are_blank (first_line (b ∷ bytes)) ≡ ends_blank (b ∷ bytes)
unfolding ends_blank
by_byte b bytes true return f r ih = subst (λ n. are_blank (first_line (n ∷ bytes)) ≡ ends_blank (n ∷ bytes)) (sym (eqb-true b 10 f)) (ap are_blank (at_feed 10 bytes refl) ∙ blank_nothing)
by_byte b bytes false true f r ih = subst (λ n. are_blank (first_line (n ∷ bytes)) ≡ ends_blank (n ∷ bytes)) (sym (eqb-true b 13 r)) (ap are_blank (past_byte 13 bytes refl) ∙ after_return bytes)
by_byte b bytes false false f r ih =
    ap are_blank (past_byte b bytes f) ∙ blank_cons b (first_line bytes) r ∙ ap (λ t. is_blank b && t) ih ∙ rw (r, f) (either (is_blank b) (ends_blank bytes))

-- the rest of the line is blank but for its carriage return
pub blank_is : (bytes : List ℕ) → are_blank (first_line bytes) ≡ ends_blank bytes
unfolding ends_blank
blank_is [] = ap are_blank no_bytes ∙ blank_nothing
blank_is (b ∷ bytes) = by_byte b bytes (is_line_feed b) (b == 13) refl refl (blank_is bytes)

abbrev HasNoFeed : List ℕ → Type 0
HasNoFeed [] = Unit {0}
HasNoFeed (k ∷ ks) = (is_line_feed k ≡ false) × HasNoFeed ks

apart : (k x : ℕ) → is_line_feed k ≡ false → is_line_feed x ≡ true → nat_eq k x ≡ false
apart k x plain h = grind (arith, nat_tests)

other_byte : (k x : ℕ) (ks xs : List ℕ) → is_line_feed k ≡ false → is_line_feed x ≡ true → starts_with nat_eq (x ∷ xs) (k ∷ ks) ≡ false
other_byte k x ks xs plain h = ap (λ t. t && starts_with nat_eq xs ks) (apart k x plain h)

-- what stands on one line begins the line where it begins the text
same_start : (needle text : List ℕ) → HasNoFeed needle → starts_with nat_eq (first_line text) needle ≡ starts_with nat_eq text needle
same_start [] text plain = refl
same_start (k ∷ ks) [] plain = ap (λ line. starts_with nat_eq line (k ∷ ks)) no_bytes
same_start (k ∷ ks) (x ∷ xs) plain = elim (is_line_feed x) as (λ f. is_line_feed x ≡ f → starts_with nat_eq (first_line (x ∷ xs)) (k ∷ ks) ≡ starts_with nat_eq (x ∷ xs) (k ∷ ks)) [
  | true ↦ λ h. ap (λ line. starts_with nat_eq line (k ∷ ks)) (at_feed x xs h) ∙ sym (other_byte k x ks xs plain.0 h)
  | false ↦ λ h. ap (λ line. starts_with nat_eq line (k ∷ ks)) (past_byte x xs h) ∙ ap (λ t. nat_eq k x && t) (same_start ks xs plain.1)
] refl

both_true : (a b : Bool) → (a && b) ≡ true → (a ≡ true) × (b ≡ true)
both_true true b h = (refl, h)
both_true false b h = absurd (false≢true h)

after_start : (needle text : List ℕ) → HasNoFeed needle → starts_with nat_eq text needle ≡ true → first_line text ≡ needle ++ first_line (drop (length needle) text)
after_start [] text plain h = refl
after_start (k ∷ ks) [] plain h = absurd (false≢true h)
after_start (k ∷ ks) (x ∷ xs) plain h =
    let both = both_true (nat_eq k x) (starts_with nat_eq xs ks) h in
    let same : k ≡ x = eqb-true k x both.0 in
    let feed : is_line_feed x ≡ false = ap is_line_feed (sym same) ∙ plain.0 in
    past_byte x xs feed ∙ ap (λ n. n ∷ first_line xs) (sym same) ∙ ap (λ line. k ∷ line) (after_start ks xs plain.1 both.1)

begins_is : (ps : List (List ℕ)) → begins_script ps ≡ is_first_line (first_of ps)
unfolding is_first_line
begins_is [] = refl
begins_is (p ∷ ps) = refl

abbrev magic : List ℕ
magic = codes "#!ipxe"

plain_magic : HasNoFeed magic
plain_magic = (refl, (refl, (refl, (refl, (refl, (refl, tt))))))

by_start : (text : List ℕ) (starts : Bool) → starts_with nat_eq text magic ≡ starts → is_first_line (first_line text) ≡ (starts && ends_blank (drop 6 text))
unfolding is_first_line
by_start text false h = rw (same_start magic text plain_magic, h) refl
by_start text true h =
    rw (same_start magic text plain_magic, h)
    (ap (λ line. are_blank (drop 6 line)) (after_start magic text plain_magic h) ∙ ap are_blank (drop_at magic (first_line (drop 6 text)) 6 refl) ∙ blank_is (drop 6 text))

-- a text is a script where its magic word is followed by blanks to the line's end
pub script_is : (text : List ℕ) → is_script text ≡ (starts_with nat_eq text magic && ends_blank (drop 6 text))
script_is text = begins_is (pieces is_line_feed text) ∙ by_start text (starts_with nat_eq text magic) refl

-- the first page tells how a body begins
pub starts_same : (bytes needle : List ℕ) → length needle ≤ 65536 → starts_with nat_eq (take 65536 bytes) needle ≡ starts_with nat_eq bytes needle
starts_same bytes needle short = ap (λ start. pointwise nat_eq needle start) (take-take (length needle) 65536 bytes short)

-- from a place on: what stands there, and the rest
at_some : (bytes : List ℕ) (at b : ℕ) → Some b ≡ slice_get bytes at → drop at bytes ≡ b ∷ drop (at + 1) bytes
at_some [] at b h = absurd (none-some b (sym h))
at_some (c ∷ bytes) zero b h = ap (λ n. n ∷ bytes) (same_Some c b (sym h))
at_some (c ∷ bytes) (suc at) b h = rw add-one (subst (λ n. drop at bytes ≡ b ∷ drop n bytes) (add-one at) (at_some bytes at b h))

at_none : (bytes : List ℕ) (at : ℕ) → None ≡ slice_get bytes at → drop at bytes ≡ []
at_none [] zero h = refl
at_none [] (suc at) h = refl
at_none (c ∷ bytes) zero h = absurd (none-some c h)
at_none (c ∷ bytes) (suc at) h = at_none bytes at h

pub line_some : (bytes : List ℕ) (at b : ℕ) → Some b ≡ slice_get bytes at → ends_line (drop at bytes) ≡ is_line_feed b
line_some bytes at b h = ap ends_line (at_some bytes at b h)

pub line_none : (bytes : List ℕ) (at : ℕ) → None ≡ slice_get bytes at → ends_line (drop at bytes) ≡ true
line_none bytes at h = ap ends_line (at_none bytes at h)

pub blank_none : (bytes : List ℕ) (at : ℕ) → None ≡ slice_get bytes at → ends_blank (drop at bytes) ≡ true
unfolding ends_blank
blank_none bytes at h = ap ends_blank (at_none bytes at h)

pub blank_past : (rest : List ℕ) → rest ≡ [] → ends_blank rest ≡ true
unfolding ends_blank
blank_past rest h = rw h refl

pub blank_return : (bytes : List ℕ) (at b : ℕ) → Some b ≡ slice_get bytes at → b ≡ 13 → ends_blank (drop at bytes) ≡ ends_line (drop (at + 1) bytes)
unfolding ends_blank
blank_return bytes at b h is = ap ends_blank (at_some bytes at b h ∙ ap (λ n. n ∷ drop (at + 1) bytes) is)

blank_by : (b : ℕ) (rest : List ℕ) (return blank : Bool) → (b == 13) ≡ return → is_blank b ≡ blank → return ≡ false → ends_blank (b ∷ rest) ≡ cond blank (ends_blank rest) (is_line_feed b)
unfolding ends_blank
blank_by b rest return blank r k other = rw (r ∙ other, k) refl

pub blank_more : (bytes : List ℕ) (at b : ℕ) → Some b ≡ slice_get bytes at → (b ≡ 13 → ⊥) → is_blank b ≡ true → ends_blank (drop at bytes) ≡ ends_blank (drop (at + 1) bytes)
blank_more bytes at b h other k = ap ends_blank (at_some bytes at b h) ∙ blank_by b (drop (at + 1) bytes) (b == 13) true refl k (ne_eqb b 13 other)

pub blank_other : (bytes : List ℕ) (at b : ℕ) → Some b ≡ slice_get bytes at → (b ≡ 13 → ⊥) → is_blank b ≡ false → ends_blank (drop at bytes) ≡ is_line_feed b
blank_other bytes at b h other k = ap ends_blank (at_some bytes at b h) ∙ blank_by b (drop (at + 1) bytes) (b == 13) false refl k (ne_eqb b 13 other)
