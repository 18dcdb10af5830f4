-- What a stream has still to come to, and the options within it.
use Rattle.std.proofs.Common.{◌≡◌, ℕ, zero, suc, ◌+◌, ◌<◌, ◌≤◌, List, [], ◌∷◌, ◌++◌, length, take, drop, Some, None, false, refl, sym, ◌∙◌, ap, subst, arith, cond}
use Rattle.std.specs.Int.{from_be_bytes, w32}
use Rattle.std.proofs.lemmas.Bool.{le-leb}
use Rattle.nb_dhcpmsg.specs.declared.stream.Stream.{Stream}
use Rattle.nb_dhcpmsg.specs.Options.{TagValue, tag_value, joined}
use Rattle.nb_dhcpmsg.specs.Fields.{FieldRead, inner_options, address_in}
use Rattle.nb_dhcpmsg.specs.Messages.{is_value}
use Rattle.nb_dhcpmsg.specs.Lefts.{IsLeft, LeadsToOption}
use Rattle.nb_dhcpmsg.specs.Streams.{HoldsOption, IsByte}
use Rattle.nb_dhcpmsg.proofs.OptionLemmas.{its_value, no_value}
use Rattle.nb_dhcpmsg.proofs.LeftLemmas.{left_one}
use Rattle.nb_dhcpmsg.proofs.FieldLemmas.{read_none, read_end, read_half, read_short, read_one}

-- the first byte of the part at hand
pub part_byte : (s t : Stream) (first : ℕ) (rest bytes : List ℕ) → s.part.now ≡ first ∷ rest → t.part.now ≡ rest → t.options ≡ s.options → t.tag ≡ s.tag → HoldsOption s bytes → IsByte (Some first) bytes t
part_byte s t first rest bytes part now same tag h = (
  rest ++ joined s.tag h.options,
  h.all ∙ ap (λ p. p ++ joined s.tag h.options) part,
  record {
    options = h.options;
    left = subst (λ c. IsLeft c h.options) (sym same) h.left;
    all = ap (λ p. p ++ joined s.tag h.options) (sym now) ∙ ap (λ n. t.part.now ++ joined n h.options) (sym tag);
  },
)

-- the next option is one of the tag
pub part_taken : (s t : Stream) (o : TagValue) (bytes : List ℕ) → LeadsToOption o s.options t.options → o.tag ≡ s.tag → s.part.now ≡ [] → t.part.now ≡ o.value → t.tag ≡ s.tag → HoldsOption s bytes → HoldsOption t bytes
part_taken s t o bytes leads is part now tag h =
    let (more, first, rest) = leads.forth h.options h.left in
    record {
      options = more;
      left = rest;
      all =
          h.all
          ∙ ap (λ p. p ++ joined s.tag h.options) part
          ∙ ap (joined s.tag) first
          ∙ ap (λ v. v ++ joined s.tag more) (its_value s.tag o is)
          ∙ ap (λ v. v ++ joined s.tag more) (sym now)
          ∙ ap (λ n. t.part.now ++ joined n more) (sym tag);
    }

-- or it is another one
pub other_passed : (s t : Stream) (o : TagValue) (bytes : List ℕ) → LeadsToOption o s.options t.options → (o.tag ≡ s.tag → ⊥) → t.part.now ≡ s.part.now → t.tag ≡ s.tag → HoldsOption s bytes → HoldsOption t bytes
other_passed s t o bytes leads other now tag h =
    let (more, first, rest) = leads.forth h.options h.left in
    record {
      options = more;
      left = rest;
      all =
          h.all
          ∙ ap (λ os. s.part.now ++ joined s.tag os) first
          ∙ ap (λ v. s.part.now ++ (v ++ joined s.tag more)) (no_value s.tag o other)
          ∙ ap (λ p. p ++ joined s.tag more) (sym now)
          ∙ ap (λ n. t.part.now ++ joined n more) (sym tag);
    }

-- no option is left
pub none_left_over : (s : Stream) (bytes : List ℕ) → IsLeft s.options [] → s.part.now ≡ [] → HoldsOption s bytes → bytes ≡ []
none_left_over s bytes none part h = h.all ∙ ap (λ p. p ++ joined s.tag h.options) part ∙ ap (joined s.tag) (left_one s.options h.options [] h.left none)

-- no bytes, and bytes that begin with what is no whole option, hold none
pub no_inner : (bytes : List ℕ) → bytes ≡ [] → inner_options bytes ≡ []
no_inner bytes none = ap inner_options none ∙ ap (λ (r : FieldRead). r.options) read_none

pub ended_inner : (tag : ℕ) (rest : List ℕ) → tag ≡ 255 → inner_options (tag ∷ rest) ≡ []
ended_inner tag rest is = ap (λ (r : FieldRead). r.options) (read_end tag rest (omega arith))

pub half_inner : (tag : ℕ) (rest : List ℕ) → 0 < tag → tag < 255 → rest ≡ [] → inner_options (tag ∷ rest) ≡ []
half_inner tag rest pos small none = ap (λ r. inner_options (tag ∷ r)) none ∙ ap (λ (r : FieldRead). r.options) (read_half tag pos small)

pub short_inner : (tag len : ℕ) (rest : List ℕ) → 0 < tag → tag < 255 → length rest < len → inner_options (tag ∷ len ∷ rest) ≡ []
short_inner tag len rest pos small short = ap (λ (r : FieldRead). r.options) (read_short tag len rest pos small short)

pub one_inner : (tag len : ℕ) (rest : List ℕ) → 0 < tag → tag < 255 → len ≤ length rest → inner_options (tag ∷ len ∷ rest) ≡ tag_value tag (take len rest) ∷ inner_options (drop len rest)
one_inner tag len rest pos small fits = ap (λ (r : FieldRead). r.options) (read_one tag len rest pos small fits)

-- an address of four bytes
pub four_bytes : (a b c d : ℕ) (rest : List ℕ) → address_in (a ∷ b ∷ c ∷ d ∷ rest) ≡ Some (from_be_bytes w32 (a ∷ b ∷ c ∷ d ∷ []))
four_bytes a b c d rest = ap (λ t. cond t (Some (from_be_bytes w32 (a ∷ b ∷ c ∷ d ∷ []))) None) (le-leb 4 (length (a ∷ b ∷ c ∷ d ∷ rest)) (omega arith))

-- and one byte more
pub record OneMore (n : ℕ) (bytes rest : List ℕ) (byte : ℕ) : Type 0 where
  pub left : drop (n + 1) bytes ≡ rest
  pub done : take (n + 1) bytes ≡ take n bytes ++ byte ∷ []
  pub within : n + 1 ≤ length bytes

head_of : List ℕ → ℕ
head_of [] = 0
head_of (x ∷ xs) = x

tail_of : List ℕ → List ℕ
tail_of [] = []
tail_of (x ∷ xs) = xs

next_byte : (n : ℕ) (bytes rest : List ℕ) (byte : ℕ) → drop n bytes ≡ byte ∷ rest → (drop (suc n) bytes ≡ rest) × (take (suc n) bytes ≡ take n bytes ++ byte ∷ []) × (suc n ≤ length bytes)
unfolding head_of tail_of
next_byte zero [] rest byte is = absurd cc
next_byte (suc n) [] rest byte is = absurd cc
next_byte zero (b ∷ bs) rest byte is = (ap tail_of is, ap (λ x. x ∷ []) (ap head_of is), omega arith)
next_byte (suc n) (b ∷ bs) rest byte is = let ih = next_byte n bs rest byte is in (ih.0, ap (λ xs. b ∷ xs) ih.1, let l = ih.2 in omega arith)

pub one_more : (n : ℕ) (bytes rest : List ℕ) (byte : ℕ) → drop n bytes ≡ byte ∷ rest → OneMore n bytes rest byte
one_more n bytes rest byte is =
    let next = next_byte n bytes rest byte is in
    let more : n + 1 ≡ suc n = omega arith in
    record {
      left = ap (λ k. drop k bytes) more ∙ next.0;
      done = ap (λ k. take k bytes) more ∙ next.1;
      within = let l = next.2 in omega arith;
    }

-- no byte more
pub no_more : (n : ℕ) (bytes : List ℕ) → drop n bytes ≡ [] → length bytes ≤ n
no_more zero bytes is = let none : length bytes ≡ 0 = ap length is in omega arith
no_more (suc n) [] is = omega arith
no_more (suc n) (b ∷ bs) is = let ih = no_more n bs is in omega arith

-- no options, and within their value none
pub nothing_inner : (tag inner : ℕ) (os : List TagValue) → os ≡ [] → is_value inner (inner_options (joined tag os)) ≡ false
nothing_inner tag inner os none = ap (λ (ps : List TagValue). is_value inner (inner_options (joined tag ps))) none ∙ ap (is_value inner) (no_inner [] refl)
