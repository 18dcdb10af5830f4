-- RFC 9112, sections 2 to 6: what is returned of the head with which bytes begin
use Rattle.std.specs.Prelude.{◌≡◌, ◌≤◌, ℕ, ◌-◌, ◌^◌, List, length, take, drop, min, Option, Some, None, slice_range, IfSome, codes}
use Rattle.std.specs.Option.{option_map}
use Rattle.httparse.specs.declared.spans.ResponseSpans.{ResponseSpans}
use Rattle.httparse.specs.Grammar.{ResponseHead, status_code}
use Rattle.nb_responses.specs.Lines.{first_block, most_lines, whole, unfinished, crowded}
use Rattle.nb_responses.specs.Heads.{IsHead, Framing, sized, chunked, to_end, bad, framing, moves_to_first, values}
use Rattle.nb_httpmsg.specs.declared.head.Head.{Head}
use Rattle.nb_httpmsg.specs.declared.head.Head.TheVariants.{Whole, More, Broken, TooMany}
use Rattle.nb_httpmsg.specs.declared.head.HeadInfo.{HeadInfo}
use Rattle.nb_httpmsg.specs.declared.head.BodyKind.{BodyKind}
use Rattle.nb_httpmsg.specs.declared.head.BodyKind.TheVariants.{Length, Chunked, ToEnd, Bad}

-- a length that a u64 can't say is the largest u64
abbrev pub body_kind : Framing → BodyKind
body_kind (sized size) = Length (min size (2 ^ 64 - 1))
body_kind chunked = Chunked
body_kind to_end = ToEnd
body_kind bad = Bad

-- a head was found, and it is the whole block
abbrev pub IsAllOf : List ℕ → Option ResponseSpans → Type 0
IsAllOf block None = ⊥
IsAllOf block (Some spans) = spans.len ≡ length block

-- what is known of the head that a block is
pub record IsInfoOf (block : List ℕ) (h : ResponseHead) (info : HeadInfo) : Type 0 where
  pub head : IsHead block h
  pub len : info.len ≡ length block
  pub status : info.status ≡ status_code h
  pub body : info.body ≡ body_kind (framing h)
  pub location : option_map (λ r. slice_range block r.0 r.1) info.location
      ≡ moves_to_first (values (codes "location") h)
  pub within : IfSome info.location (λ r. (r.0 ≤ r.1) × (r.1 ≤ length block))

-- the bytes begin with a head of this length
pub record BeginsWithHead (bytes : List ℕ) (info : HeadInfo) : Type 0 where
  pub within : info.len ≤ length bytes
  pub block : first_block most_lines bytes ≡ whole (take info.len bytes) (drop info.len bytes)
  pub known : (h : ResponseHead) × IsInfoOf (take info.len bytes) h info

-- the block with which they begin is no head
pub record BeginsWithoutHead (bytes : List ℕ) : Type 0 where
  pub len : ℕ
  pub block : first_block most_lines bytes ≡ whole (take len bytes) (drop len bytes)
  pub none : (h : ResponseHead) → ¬ (IsHead (take len bytes) h)

abbrev pub IsHeadOf : List ℕ → Head → Type 0
IsHeadOf bytes (Whole info) = BeginsWithHead bytes info
IsHeadOf bytes More = first_block most_lines bytes ≡ unfinished
IsHeadOf bytes Broken = BeginsWithoutHead bytes
IsHeadOf bytes TooMany = first_block most_lines bytes ≡ crowded
