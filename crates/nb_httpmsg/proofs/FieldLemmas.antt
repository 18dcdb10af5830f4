-- The fields of a name among those that spans cover.
use Rattle.std.specs.Option.{option_map}
use Rattle.std.proofs.Common.{◌≡◌, ◌≤◌, ◌<◌, ◌++◌, take, codes, IfSome, slice_range, append-nil, ℕ, suc, ◌+◌, List, [], ◌∷◌, length, drop, get_or, map, true, false, Option, Some, None, refl, ap, ◌∙◌, sym, arith}
use Rattle.std.specs.List.{filter}
use Rattle.std.proofs.lemmas.List.{at_drop_more, length-map, drop_all, length-take}
use Rattle.httparse.specs.declared.spans.HeaderSpan.{HeaderSpan}
use Rattle.httparse.specs.Grammar.{Field, ResponseHead, print_response}
use Rattle.httparse.specs.declared.spans.ResponseSpans.{ResponseSpans}
use Rattle.httparse.specs.Spans.{span_bytes, name_and_value, header_bytes, IsResponseAt}
use Rattle.nb_responses.specs.Heads.{is_same_word, field_is, values, moves_to_first, framing_by}
use Rattle.nb_responses.proofs.Cases.{either}
use Rattle.nb_httpmsg.specs.declared.head.BodyKind.{BodyKind}
use Rattle.nb_httpmsg.specs.Fields.{covered, named}
use Rattle.nb_httpmsg.specs.HeadInfos.{body_kind, IsInfoOf}

pub skips : (block name : List ℕ) (spans : List HeaderSpan) (i : ℕ) (d : HeaderSpan) → i < length spans → is_same_word name (span_bytes block (get_or spans i d).name) ≡ false
    → named name (covered block (drop i spans)) ≡ named name (covered block (drop (i + 1) spans))
skips block name spans i d l off = at_drop_more (λ ss. named name (covered block ss)) spans i d l ∙ head (get_or spans i d) (drop (i + 1) spans) off
  where
    head : (s : HeaderSpan) (ss : List HeaderSpan) → is_same_word name (span_bytes block s.name) ≡ false → named name (covered block (s ∷ ss)) ≡ named name (covered block ss)
    head s ss off = rw off refl

pub finds : (block name : List ℕ) (spans : List HeaderSpan) (i : ℕ) (d : HeaderSpan) → i < length spans → is_same_word name (span_bytes block (get_or spans i d).name) ≡ true
    → named name (covered block (drop i spans)) ≡ span_bytes block (get_or spans i d).value ∷ named name (covered block (drop (i + 1) spans))
finds block name spans i d l on = at_drop_more (λ ss. named name (covered block ss)) spans i d l ∙ head (get_or spans i d) (drop (i + 1) spans) on
  where
    head : (s : HeaderSpan) (ss : List HeaderSpan) → is_same_word name (span_bytes block s.name) ≡ true → named name (covered block (s ∷ ss)) ≡ span_bytes block s.value ∷ named name (covered block ss)
    head s ss on = rw on refl

-- the fields of a head by their names and values
pub named_values : (name : List ℕ) (fields : List Field) → named name (map name_and_value fields) ≡ map (λ f. (name_and_value f).1) (filter (field_is name) fields)
named_values name [] = refl
named_values name (f ∷ fs) = either (field_is name f)
    (λ on. rw on (ap (λ vs. (name_and_value f).1 ∷ vs) (named_values name fs)))
    (λ off. rw off (named_values name fs))

pub first_target : (v : List ℕ) (vs : List (List ℕ)) → 0 < length v → moves_to_first (v ∷ vs) ≡ Some v
first_target [] vs l = absurd (none_below 0 l)
  where
    none_below : (k : ℕ) → 0 < 0 → ⊥
    none_below k l = omega (arith, l)
first_target (b ∷ bytes) vs l = refl

pub no_target : (v : List ℕ) (vs : List (List ℕ)) → length v ≡ 0 → moves_to_first (v ∷ vs) ≡ None
no_target [] vs e = refl
no_target (b ∷ bytes) vs e = absurd (apart (length bytes) e)
  where
    apart : (k : ℕ) → suc k ≡ 0 → ⊥
    apart k e = omega (arith, e)

covered_values : (block name : List ℕ) (spans : List HeaderSpan) (h : ResponseHead) → map (header_bytes block) spans ≡ map name_and_value h.fields → named name (covered block spans) ≡ values name h
covered_values block name spans h e = ap (named name) e ∙ named_values name h.fields

-- a block is a head where the parser's head is all of it
pub info_of : (block : List ℕ) (headers fields : List HeaderSpan) (r : ResponseSpans) (h : ResponseHead) (kind : BodyKind) (location : Option (ℕ × ℕ))
    → IsResponseAt block headers r h → r.len ≡ length block → length headers ≡ 64 → fields ≡ take r.headers headers
    → kind ≡ body_kind (framing_by (named (codes "transfer-encoding") (covered block fields)) (named (codes "content-length") (covered block fields)))
    → option_map (λ p. slice_range block p.0 p.1) location ≡ moves_to_first (named (codes "location") (covered block fields))
    → IfSome location (λ p. (p.0 ≤ p.1) × (p.1 ≤ length block))
    → IsInfoOf block h (record { status = r.code; len = length block; body = kind; location = location })
info_of block headers fields r h kind location is all room these kind_is location_is within =
    let same : map (header_bytes block) fields ≡ map name_and_value h.fields = ap (map (header_bytes block)) these ∙ is.fields in
    let count : length fields ≡ length h.fields = sym (length-map fields (header_bytes block)) ∙ ap length same ∙ length-map h.fields name_and_value in
    record {
      head = record {
        valid = is.reads.0;
        bytes = is.reads.1 ∙ ap (λ n. print_response h ++ drop n block) all ∙ ap (λ t. print_response h ++ t) (drop_all (length block) block (omega arith)) ∙ append-nil (print_response h);
        fields = omega (arith, count, ap length these, length-take r.headers headers, room);
      };
      len = refl;
      status = is.code;
      body = kind_is ∙ ap (λ vs. body_kind (framing_by vs (named (codes "content-length") (covered block fields)))) (covered_values block (codes "transfer-encoding") fields h same)
          ∙ ap (λ vs. body_kind (framing_by (values (codes "transfer-encoding") h) vs)) (covered_values block (codes "content-length") fields h same);
      location = location_is ∙ ap moves_to_first (covered_values block (codes "location") fields h same);
      within = within;
    }
