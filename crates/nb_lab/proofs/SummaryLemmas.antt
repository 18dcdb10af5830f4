-- The counts of a run, record by record.
use Rattle.std.proofs.Common.{◌≡◌, ℕ, ◌+◌, ◌-◌, ◌++◌, Bool, true, false, List, [], ◌∷◌, length, map, count_by, sum_by, Option, Some, None, Result, Ok, Err, IfOk, codes, if◌then◌else◌, refl, sym, ap, ◌∙◌, subst, arith}
use Rattle.std.proofs.lemmas.List.{length-append, map-append, append-nil, append_assoc}
use Rattle.std.proofs.lemmas.List.Sums.{sum_by-append}
use Rattle.nb_defs.specs.Records.{In, Out}
use Rattle.nb_lab.specs.declared.image.Image.{Image}
use Rattle.nb_lab.specs.Images.{image_len}
use Rattle.nb_lab.specs.Shows.{Seen, frame, try, open_for, result, other, seen}
use Rattle.nb_lab.specs.Summaries.{is_frame, is_try, ends_well, image_if, fetched_images, capped_count, summary_line, size_of_image, summary}
use Rattle.nb_lab.specs.Tallies.{Tally, no_tally, with_fetched_image, with_seen, asked_after, Counts, tally_text}

count_by-append : {X : Type 0} (p : X → Bool) (xs ys : List X) → count_by p (xs ++ ys) ≡ count_by p xs + count_by p ys
count_by-append p xs ys = sum_by-append (λ x. if p x then 1 else 0) xs ys

no_image : (ok : Bool) → image_if ok None ≡ []
no_image true = refl
no_image false = refl

-- what is fetched with an open before
fetched_from : Option Image → List Seen → List Image
fetched_from before shown = image_if (ends_well shown) before ++ fetched_images shown

-- what one record more adds
added : Seen → Option Image → List Image
added (frame bytes) asked = []
added try asked = []
added (open_for image) asked = []
added (result ok) asked = image_if ok asked
added other asked = []

asked_by : Seen → Option Image → Option Image
asked_by (frame bytes) asked = asked
asked_by try asked = asked
asked_by (open_for image) asked = image
asked_by (result ok) asked = None
asked_by other asked = asked

from_none : (shown : List Seen) → fetched_from None shown ≡ fetched_images shown
unfolding fetched_from
from_none shown = ap (λ (x : List Image). x ++ fetched_images shown) (no_image (ends_well shown))

fetched_one : (before : Option Image) (s : Seen) → fetched_from before (s ∷ []) ≡ added s before
unfolding fetched_from added
fetched_one before (frame bytes) = refl
fetched_one before try = refl
fetched_one before (open_for image) = refl
fetched_one before (result ok) = append-nil (image_if ok before)
fetched_one before other = refl

fetched_more : (before : Option Image) (shown : List Seen) (s : Seen) → fetched_from before (shown ++ s ∷ []) ≡ fetched_from before shown ++ added s (asked_after before shown)
unfolding fetched_from
fetched_more before [] s = fetched_one before s
fetched_more before (frame bytes ∷ shown) s = fetched_more before shown s
fetched_more before (try ∷ shown) s = fetched_more before shown s
fetched_more before (open_for image ∷ shown) s = fetched_more image shown s
fetched_more before (result ok ∷ shown) s =
    let rest : fetched_images (shown ++ s ∷ []) ≡ fetched_images shown ++ added s (asked_after None shown) =
    sym (from_none (shown ++ s ∷ [])) ∙ fetched_more None shown s ∙ ap (λ (x : List Image). x ++ added s (asked_after None shown)) (from_none shown) in
    ap (λ (x : List Image). image_if ok before ++ x) rest ∙ sym (append_assoc (image_if ok before) (fetched_images shown) (added s (asked_after None shown)))
fetched_more before (other ∷ shown) s = fetched_more before shown s

asked_more : (before : Option Image) (shown : List Seen) (s : Seen) → asked_after before (shown ++ s ∷ []) ≡ asked_by s (asked_after before shown)
unfolding asked_by
asked_more before [] (frame bytes) = refl
asked_more before [] try = refl
asked_more before [] (open_for image) = refl
asked_more before [] (result ok) = refl
asked_more before [] other = refl
asked_more before (frame bytes ∷ shown) s = asked_more before shown s
asked_more before (try ∷ shown) s = asked_more before shown s
asked_more before (open_for image ∷ shown) s = asked_more image shown s
asked_more before (result ok ∷ shown) s = asked_more None shown s
asked_more before (other ∷ shown) s = asked_more before shown s

pub nothing_counts : (images : ℕ) → Counts (no_tally images) [] []
nothing_counts images = record { bytes = refl; records = refl; frames = refl; tries = refl; asked = refl }

pub counts_input : (t new : Tally) (ins : List In) (outs : List Out) (r : In) → Counts t ins outs → new ≡ record t { records = capped_count (t.records + 1) } → Counts new (ins ++ r ∷ []) outs
counts_input t new ins outs r h is =
    let P : Tally → Type 0 = λ x. Counts x (ins ++ r ∷ []) outs in
    subst P (sym is) (record {
      bytes = h.bytes;
      records = omega (arith, h.records, length-append ins (r ∷ []));
      frames = h.frames;
      tries = h.tries;
      asked = h.asked;
    })

module _ (t : Tally) (ins : List In) (outs : List Out) (o : Out) (h : Counts t ins outs) where
  -- the list of what is shown, with one record more
  more : (s : Seen) → s ≡ seen o → map seen (outs ++ o ∷ []) ≡ map seen outs ++ s ∷ []
  more s is = map-append seen outs (o ∷ []) ∙ ap (λ (x : Seen). map seen outs ++ x ∷ []) (sym is)

  frames_more : (s : Seen) → s ≡ seen o → count_by is_frame (map seen (outs ++ o ∷ [])) ≡ count_by is_frame (map seen outs) + count_by is_frame (s ∷ [])
  frames_more s is = ap (count_by is_frame) (more s is) ∙ count_by-append is_frame (map seen outs) (s ∷ [])

  tries_more : (s : Seen) → s ≡ seen o → count_by is_try (map seen (outs ++ o ∷ [])) ≡ count_by is_try (map seen outs) + count_by is_try (s ∷ [])
  tries_more s is = ap (count_by is_try) (more s is) ∙ count_by-append is_try (map seen outs) (s ∷ [])

  bytes_more : (s : Seen) → s ≡ seen o → sum_by size_of_image (fetched_images (map seen (outs ++ o ∷ []))) ≡ sum_by size_of_image (fetched_images (map seen outs)) + sum_by size_of_image (added s (asked_after None (map seen outs)))
  bytes_more s is =
      let shown = map seen outs in
      let all : fetched_images (map seen (outs ++ o ∷ [])) ≡ fetched_images shown ++ added s (asked_after None shown) =
      ap fetched_images (more s is) ∙ sym (from_none (shown ++ s ∷ [])) ∙ fetched_more None shown s ∙ ap (λ (x : List Image). x ++ added s (asked_after None shown)) (from_none shown) in
      ap (sum_by size_of_image) all ∙ sum_by-append size_of_image (fetched_images shown) (added s (asked_after None shown))

  asked_is : (s : Seen) → s ≡ seen o → asked_after None (map seen (outs ++ o ∷ [])) ≡ asked_by s t.asked
  asked_is s is = ap (asked_after None) (more s is) ∙ asked_more None (map seen outs) s ∙ ap (asked_by s) (sym h.asked)

  -- a record that adds no bytes
  same_bytes : (s : Seen) → s ≡ seen o → sum_by size_of_image (added s (asked_after None (map seen outs))) ≡ 0 → t.bytes ≡ capped_count (sum_by size_of_image (fetched_images (map seen (outs ++ o ∷ []))))
  same_bytes s is none = omega (arith, h.bytes, bytes_more s is, none)

  with_result : (ok : Bool) (image : Option Image) → t.asked ≡ image → result ok ≡ seen o → Counts (with_fetched_image t ok image) ins (outs ++ o ∷ [])
  unfolding added asked_by
  with_result true (Some image) asked is =
      let adds : sum_by size_of_image (image_if true (asked_after None (map seen outs))) ≡ image_len image.0 =
      ap (λ (x : Option Image). sum_by size_of_image (image_if true x)) (sym h.asked ∙ asked) ∙ omega arith in
      record {
        bytes = omega (arith, h.bytes, bytes_more (result true) is, adds);
        records = h.records;
        frames = omega (arith, h.frames, frames_more (result true) is);
        tries = omega (arith, h.tries, tries_more (result true) is);
        asked = sym (asked_is (result true) is);
      }
  with_result true None asked is =
      let adds : sum_by size_of_image (image_if true (asked_after None (map seen outs))) ≡ 0 =
      ap (λ (x : Option Image). sum_by size_of_image (image_if true x)) (sym h.asked ∙ asked) in
      record {
        bytes = omega (arith, h.bytes, bytes_more (result true) is, adds);
        records = h.records;
        frames = omega (arith, h.frames, frames_more (result true) is);
        tries = omega (arith, h.tries, tries_more (result true) is);
        asked = sym (asked_is (result true) is);
      }
  with_result false image asked is = record {
    bytes = same_bytes (result false) is refl;
    records = h.records;
    frames = omega (arith, h.frames, frames_more (result false) is);
    tries = omega (arith, h.tries, tries_more (result false) is);
    asked = sym (asked_is (result false) is);
  }

  pub counts_more : (s : Seen) → s ≡ seen o → Counts (with_seen t s) ins (outs ++ o ∷ [])
  unfolding added asked_by
  counts_more (frame bytes) is = record {
    bytes = same_bytes (frame bytes) is refl;
    records = h.records;
    frames = omega (arith, h.frames, frames_more (frame bytes) is);
    tries = omega (arith, h.tries, tries_more (frame bytes) is);
    asked = sym (asked_is (frame bytes) is);
  }
  counts_more try is = record {
    bytes = same_bytes try is refl;
    records = h.records;
    frames = omega (arith, h.frames, frames_more try is);
    tries = omega (arith, h.tries, tries_more try is);
    asked = sym (asked_is try is);
  }
  counts_more (open_for image) is = record {
    bytes = same_bytes (open_for image) is refl;
    records = h.records;
    frames = omega (arith, h.frames, frames_more (open_for image) is);
    tries = omega (arith, h.tries, tries_more (open_for image) is);
    asked = sym (asked_is (open_for image) is);
  }
  counts_more (result ok) is = with_result ok t.asked refl is
  counts_more other is = record {
    bytes = same_bytes other is refl;
    records = h.records;
    frames = omega (arith, h.frames, frames_more other is);
    tries = omega (arith, h.tries, tries_more other is);
    asked = sym (asked_is other is);
  }

-- the text of the counts is the summary
pub text_is : (t : Tally) (ins : List In) (outs : List Out) (status : ℕ) → Counts t ins outs → tally_text t status ≡ summary t.images ins outs status
unfolding summary
text_is t ins outs status h =
    let text : ℕ → ℕ → ℕ → ℕ → List ℕ = λ bytes records frames tries.
    summary_line (codes "images ") t.images ++ summary_line (codes "bytes ") bytes ++ summary_line (codes "records ") records ++ summary_line (codes "frames ") frames
    ++ summary_line (codes "tries ") tries ++ summary_line (codes "status ") status in
    ap (λ k. text k t.records t.frames t.tries) h.bytes
    ∙ ap (λ k. text (capped_count (sum_by size_of_image (fetched_images (map seen outs)))) k t.frames t.tries) h.records
    ∙ ap (λ k. text (capped_count (sum_by size_of_image (fetched_images (map seen outs)))) (capped_count (length ins)) k t.tries) h.frames
    ∙ ap (λ k. text (capped_count (sum_by size_of_image (fetched_images (map seen outs)))) (capped_count (length ins)) (capped_count (count_by is_frame (map seen outs))) k) h.tries

pub summed_up : {E : Type 0} (r : Result (List ℕ) E) (t : Tally) (status : ℕ) → IfOk r (λ text. text ≡ tally_text t status)
    → IfOk r (λ text. (ins : List In) (outs : List Out) → Counts t ins outs → text ≡ summary t.images ins outs status)
summed_up (Ok text) t status h = λ ins outs counts. h ∙ text_is t ins outs status counts
summed_up (Err e) t status h = h
