-- The parts of a hand-off are short, and its records come one after another.
use Rattle.std.proofs.Common.{◌≡◌, ℕ, zero, suc, ◌+◌, ◌*◌, ◌/◌, ◌<◌, ◌≤◌, ◌^◌, ◌==◌, Bool, true, false, cond, List, [], ◌∷◌, ◌++◌, length, take, drop, map, Option, Some, None, refl, sym, ◌∙◌, ap, subst, arith, add-one, length-append}
use Rattle.std.specs.Prelude.{slice_get, slice_set, IfSome}
use Rattle.std.specs.List.{AllByRecursion, flat_map, remove, enumerate_from}
use Rattle.std.specs.Option.{option_to_list}
use Rattle.std.proofs.lemmas.Option.{slice_get_within, none-some, same_Some}
use Rattle.std.proofs.lemmas.List.{drop-append-le, drop_all, length-take}
use Rattle.std.proofs.lemmas.Bool.{eqb-true, eqb-false}
use Rattle.nb_defs.specs.Records.{Out, out_text, out_texts}
use Rattle.nb_record.specs.Logged.{Logged, Puts}
use Rattle.nb_image.specs.declared.image.Image.{Image}
use Rattle.nb_image.specs.Images.{ImageList, put_image, image_place, with_image}
use Rattle.nb_image.specs.Parts.{PartText, PieceText, parts, table_parts, kernel_parts, initrd_parts, others_parts, part_pieces, piece_count}
use Rattle.nb_image.proofs.PartsLemmas.{parts_length, piece_is, pieces_length}
use Rattle.nb_runner.specs.declared.handing.Booted.{Booted}
use Rattle.nb_runner.specs.declared.handing.Booted.TheVariants as booted
use Rattle.nb_runner.specs.declared.handing.Handing.{Handing}
use Rattle.nb_runner.specs.declared.piece_record.PieceRecord.{PieceRecord}
use Rattle.nb_machine.specs.Conclusions.{part_records, piece_record}
use Rattle.nb_runner.specs.Handings.{IsShortImage, AreShortImages, IsShortTable, FitsBooted, IsAtPiece, IsNextPiece, PassesNext, PutsNext, booted_parts, moved_on, parts_handed, record_of, records_left}
use Rattle.nb_runner.proofs.Puts.{Puts-one}

-- of all elements of both lists, and of an element
pub all_append : {A : Type 0} (P : A → Type 0) (xs ys : List A) → AllByRecursion P xs → AllByRecursion P ys → AllByRecursion P (xs ++ ys)
all_append P [] ys p q = q
all_append P (x ∷ xs) ys p q = (p.0, all_append P xs ys p.1 q)

all_at : {A : Type 0} (P : A → Type 0) (xs : List A) (k : ℕ) (x : A) → AllByRecursion P xs → slice_get xs k ≡ Some x → P x
all_at P [] k x p h = absurd (none-some x h)
all_at P (y ∷ ys) zero x p h = subst P (same_Some y x h) p.0
all_at P (y ∷ ys) (suc k) x p h = all_at P ys k x p.1 h

pub all_set : {A : Type 0} (P : A → Type 0) (xs : List A) (k : ℕ) (x : A) → AllByRecursion P xs → P x → AllByRecursion P (slice_set xs k x)
all_set P [] k x p q = tt
all_set P (y ∷ ys) zero x p q = (q, p.1)
all_set P (y ∷ ys) (suc k) x p q = (p.0, all_set P ys k x p.1 q)

pub all_remove : {A : Type 0} (P : A → Type 0) (xs : List A) (k : ℕ) → AllByRecursion P xs → AllByRecursion P (remove xs k)
all_remove P [] zero p = tt
all_remove P [] (suc k) p = tt
all_remove P (y ∷ ys) zero p = p.1
all_remove P (y ∷ ys) (suc k) p = (p.0, all_remove P ys k p.1)

all_option : {A : Type 0} (P : A → Type 0) (xs : List A) (k : ℕ) → AllByRecursion P xs → AllByRecursion P (option_to_list (slice_get xs k))
all_option P [] k p = tt
all_option P (y ∷ ys) zero p = (p.0, tt)
all_option P (y ∷ ys) (suc k) p = all_option P ys k p.1

-- an image more
put_short : (place : Option ℕ) (image : Image) (images : List Image) → IsShortImage image → AreShortImages images → AreShortImages (put_image place image images)
put_short None image images q p = all_append IsShortImage images (image ∷ []) p (q, tt)
put_short (Some i) image images q p = all_set IsShortImage images i image p q

pub with_short : (image : Image) (images : List Image) → IsShortImage image → AreShortImages images → AreShortImages (with_image image images)
with_short image images q p = put_short (image_place image.name images) image images q p

-- a part has at most 268,435,456 bytes
abbrev IsSmall : PartText → Type 0
IsSmall p = length p.bytes ≤ 268435456

kernel_small : (images : List Image) → AreShortImages images → AllByRecursion IsSmall (flat_map kernel_parts images)
kernel_small [] p = tt
kernel_small (i ∷ images) p = (p.0.name, (p.0.body, (p.0.args, kernel_small images p.1)))

initrd_small : (n : ℕ) (images : List Image) → AreShortImages images → AllByRecursion IsSmall (flat_map initrd_parts (enumerate_from n images))
initrd_small n [] p = tt
initrd_small n (i ∷ images) p = (p.0.name, (p.0.body, initrd_small (n + 1) images p.1))

parts_small : (kernel : ℕ) (images : List Image) → AreShortImages images → AllByRecursion IsSmall (parts kernel images)
parts_small kernel images p =
    all_append IsSmall (flat_map kernel_parts (option_to_list (slice_get images kernel))) (others_parts (remove images kernel))
    (kernel_small (option_to_list (slice_get images kernel)) (all_option IsShortImage images kernel p))
    (initrd_small 0 (remove images kernel) (all_remove IsShortImage images kernel p))

table_small : (table : Option (List ℕ)) → IsShortTable table → AllByRecursion IsSmall (table_parts table)
table_small None short = tt
table_small (Some bytes) short = (short, tt)

booted_small : (images : List Image) (b : Booted) → FitsBooted images b → AreShortImages images → AllByRecursion IsSmall (booted_parts images b)
booted_small images (booted.Image kernel) fits short = parts_small kernel images short
booted_small images (booted.Disk block) fits short = (fits, tt)

handed_small : (images : List Image) (h : Handing) → FitsBooted images h.booted → AreShortImages images → IsShortTable h.table → AllByRecursion IsSmall (parts_handed images h)
handed_small images h fits short table =
    all_append IsSmall (booted_parts images h.booted) (table_parts h.table) (booted_small images h.booted fits short) (table_small h.table table)

pub part_small : (images : List Image) (h : Handing) (k : ℕ) (p : PartText) → FitsBooted images h.booted → AreShortImages images → IsShortTable h.table → slice_get (parts_handed images h) k ≡ Some p →
    length p.bytes ≤ 268435456
part_small images h k p fits short table e = all_at IsSmall (parts_handed images h) k p (handed_small images h fits short table) e

-- from a place on: what stands there, and the rest
pub drop_get : {A : Type 0} (xs : List A) (k : ℕ) (x : A) → slice_get xs k ≡ Some x → drop k xs ≡ x ∷ drop (k + 1) xs
drop_get [] k x h = absurd (none-some x h)
drop_get (y ∷ ys) zero x h = ap (λ z. z ∷ ys) (same_Some y x h)
drop_get (y ∷ ys) (suc k) x h = rw add-one (subst (λ j. drop k ys ≡ x ∷ drop j ys) (add-one k) (drop_get ys k x h))

pub drop_none : {A : Type 0} (xs : List A) (k : ℕ) → slice_get xs k ≡ None → drop k xs ≡ []
drop_none [] zero h = refl
drop_none [] (suc k) h = refl
drop_none (y ∷ ys) zero h = absurd (none-some y (sym h))
drop_none (y ∷ ys) (suc k) h = drop_none ys k h

get_map : {A B : Type 0} (f : A → B) (xs : List A) (k : ℕ) (x : A) → slice_get xs k ≡ Some x → slice_get (map f xs) k ≡ Some (f x)
get_map f [] k x h = absurd (none-some x h)
get_map f (y ∷ ys) zero x h = ap (λ z. Some (f z)) (same_Some y x h)
get_map f (y ∷ ys) (suc k) x h = get_map f ys k x h

-- what is left at a piece of a part: its record, and what is left after it
left_at : (ps : List PartText) (k j : ℕ) (p : PartText) → slice_get ps k ≡ Some p → j ≤ length (part_records p) →
    drop j (flat_map part_records (drop k ps)) ≡ drop j (part_records p) ++ flat_map part_records (drop (k + 1) ps)
left_at ps k j p h within =
    ap (λ xs. drop j (flat_map part_records xs)) (drop_get ps k p h)
    ∙ drop-append-le j (part_records p) (flat_map part_records (drop (k + 1) ps)) within

pub next_left : (ps : List PartText) (k j : ℕ) (p : PartText) (next : Out) → slice_get ps k ≡ Some p → slice_get (part_records p) j ≡ Some next →
    drop j (flat_map part_records (drop k ps)) ≡ next ∷ (drop (j + 1) (part_records p) ++ flat_map part_records (drop (k + 1) ps))
next_left ps k j p next h r =
    let within : j < length (part_records p) = slice_get_within (part_records p) j next r in
    left_at ps k j p h (omega arith) ∙ ap (λ xs. xs ++ flat_map part_records (drop (k + 1) ps)) (drop_get (part_records p) j next r)

-- within the part
pub left_within : (ps : List PartText) (k j : ℕ) (p : PartText) → slice_get ps k ≡ Some p → j + 1 ≤ length (part_records p) →
    drop (j + 1) (part_records p) ++ flat_map part_records (drop (k + 1) ps) ≡ drop (j + 1) (flat_map part_records (drop k ps))
left_within ps k j p h within = sym (left_at ps k (j + 1) p h within)

-- after the part's last piece
pub left_behind : (ps : List PartText) (k j : ℕ) (p : PartText) → drop (j + 1) (part_records p) ≡ [] →
    drop (j + 1) (part_records p) ++ flat_map part_records (drop (k + 1) ps) ≡ drop 0 (flat_map part_records (drop (k + 1) ps))
left_behind ps k j p e = ap (λ xs. xs ++ flat_map part_records (drop (k + 1) ps)) e

drop_nothing : (j : ℕ) → drop j (flat_map part_records []) ≡ []
drop_nothing zero = refl
drop_nothing (suc j) = refl

-- after all parts nothing is left
pub none_left : (ps : List PartText) (k j : ℕ) → slice_get ps k ≡ None → drop j (flat_map part_records (drop k ps)) ≡ []
none_left ps k j h = ap (λ xs. drop j (flat_map part_records xs)) (drop_none ps k h) ∙ drop_nothing j

-- no element at a place: it is after the last
pub past_end : {A : Type 0} (xs : List A) (k : ℕ) → slice_get xs k ≡ None → length xs ≤ k
past_end [] k h = omega arith
past_end (y ∷ ys) zero h = absurd (none-some y (sym h))
past_end (y ∷ ys) (suc k) h = let rest = past_end ys k h in omega arith

small_count : (len j : ℕ) → len ≤ 268435456 → j < piece_count len → 65536 * j < 2 ^ 32
small_count len j small h = elim (len == 0) as (λ t. j < cond t 1 ((len + 65535) / 65536) → 65536 * j < 2 ^ 32) [ true ↦ λ g. omega arith | false ↦ λ g. omega arith ] h

-- what stands at a place of a short part's pieces
pub record PieceAt (j : ℕ) (piece : PieceText) : Type 0 where
  pub offset : piece.offset ≡ 65536 * j
  pub short : length piece.bytes ≤ 65536
  pub fits : 65536 * j < 2 ^ 32

pub piece_at_place : (bytes : List ℕ) (j : ℕ) (piece : PieceText) → length bytes ≤ 268435456 → slice_get (part_pieces bytes) j ≡ Some piece → PieceAt j piece
piece_at_place bytes j piece small h =
    let within : j < length (part_pieces bytes) = slice_get_within (part_pieces bytes) j piece h in
    let count : j < piece_count (length bytes) = rw (← pieces_length bytes) within in
    let same = same_Some _ piece (sym (piece_is bytes j (65536 * j) (take 65536 (drop (65536 * j) bytes)) count refl refl) ∙ h) in
    record {
      offset = sym (ap (λ (p : PieceText). p.offset) same);
      short = rw (← ap (λ (p : PieceText). p.bytes) same, length-take 65536 (drop (65536 * j) bytes)) (omega arith);
      fits = small_count (length bytes) j small count;
    }

not_zero : (n : ℕ) → (n == 0) ≡ false → 0 < n
not_zero zero e = let no : true ≡ false = e in cc
not_zero (suc n) e = omega arith

some_count : (len : ℕ) → 0 < piece_count len
some_count len = elim (len == 0) as (λ t. (len == 0) ≡ t → 0 < cond t 1 ((len + 65535) / 65536)) [ true ↦ λ e. omega arith | false ↦ λ e. omega (arith, not_zero len e) ] refl

map_length : {A B : Type 0} (f : A → B) (xs : List A) → length (map f xs) ≡ length xs
map_length f [] = refl
map_length f (x ∷ xs) = ap suc (map_length f xs)

-- a part's records are as many as its pieces
pub records_of_part : (p : PartText) → length (part_records p) ≡ length (part_pieces p.bytes)
records_of_part p = map_length (piece_record p) (part_pieces p.bytes)

-- a part has a piece
first_piece : (o : Option PartText) → IfSome o (λ p. 0 < length (part_records p))
first_piece None = tt
first_piece (Some p) = rw (records_of_part p, pieces_length p.bytes) (some_count (length p.bytes))

-- a hand-off begins
pub begins_at : (list : ImageList) (b : Booted) (table : Option (List ℕ)) → FitsBooted list.images b → AreShortImages list.images → IsShortTable table →
    IsAtPiece list (record { booted = b; table = table; part = 0; piece = 0 })
begins_at list b table fits short few = record {
  booted = fits;
  part = omega arith;
  piece = first_piece (slice_get (booted_parts list.images b ++ table_parts table) 0);
  behind = λ _. refl;
  short = short;
  table = few;
}

-- after a part comes the next, at its first piece
pub at_next : (list : ImageList) (h : Handing) → IsAtPiece list h → h.part < length (parts_handed list.images h) → IsAtPiece list (moved_on true h)
at_next list h at within = record {
  booted = at.booted;
  part = omega (arith, within);
  piece = first_piece (slice_get (parts_handed list.images h) (h.part + 1));
  behind = λ _. refl;
  short = at.short;
  table = at.table;
}

-- within a part comes the next piece
pub at_piece : (list : ImageList) (h : Handing) (p : PartText) → IsAtPiece list h → slice_get (parts_handed list.images h) h.part ≡ Some p →
    h.piece + 1 < length (part_records p) → IsAtPiece list (moved_on false h)
at_piece list h p at is within = record {
  booted = at.booted;
  part = at.part;
  piece = rw is within;
  behind = λ none. absurd (none-some p (sym none ∙ is));
  short = at.short;
  table = at.table;
}

pub part_within : (ps : List PartText) (k : ℕ) (p : PartText) → slice_get ps k ≡ Some p → k < length ps
part_within ps k p h = slice_get_within ps k p h

pub drop_past : (k : ℕ) (xs : List Out) → k ≡ length xs → drop k xs ≡ []
drop_past k xs e = drop_all k xs (omega (arith, e))

-- HOW MANY RECORDS A HAND-OFF HAS

count_some : (len : ℕ) → len ≤ 268435456 → piece_count len ≤ 4097
count_some len small = by (len == 0)
  where
    by : (b : Bool) → cond b 1 ((len + 65535) / 65536) ≤ 4097
    by true = omega arith
    by false = omega (arith, small)

flat_few : (ps : List PartText) → AllByRecursion IsSmall ps → length (flat_map part_records ps) ≤ 4097 * length ps
flat_few [] small = omega arith
flat_few (p ∷ ps) small =
    let one : length (part_records p) ≤ 4097 = rw (records_of_part p, pieces_length p.bytes) (count_some (length p.bytes) small.0) in
    omega (arith, one, flat_few ps small.1, length-append (part_records p) (flat_map part_records ps))

table_few : (table : Option (List ℕ)) → length (table_parts table) ≤ 1
table_few None = omega arith
table_few (Some bytes) = omega arith

-- of few images there are few parts
pub image_few : (images : List Image) (kernel : ℕ) → kernel < length images → length images ≤ 32 → length (parts kernel images) ≤ 65
image_few images kernel within few = omega (arith, parts_length images kernel within, few)

-- a hand-off of few parts has few records
pub handoff_few : (images : List Image) (h : Handing) → FitsBooted images h.booted → AreShortImages images → IsShortTable h.table → length (booted_parts images h.booted) ≤ 65 →
    length (flat_map part_records (parts_handed images h)) ≤ 270402
handoff_few images h fits short table few =
    omega (arith, flat_few (parts_handed images h) (handed_small images h fits short table), length-append (booted_parts images h.booted) (table_parts h.table), table_few h.table, few)

-- ONE PART AFTER ANOTHER

-- an element of two lists on one another, of which the second has one at most
get_short : {A : Type 0} (ys : List A) (k : ℕ) → length ys ≤ 1 → (k ≡ 0 → ⊥) → slice_get [] k ≡ slice_get ys k
get_short [] k few other = refl
get_short (y ∷ ys) zero few other = absurd (other refl)
get_short (y ∷ []) (suc k) few other = refl
get_short (y ∷ z ∷ ys) (suc k) few other = absurd (omega (arith, few))

get_other : {A : Type 0} (xs ys : List A) (k : ℕ) → length ys ≤ 1 → (k ≡ length xs → ⊥) → slice_get xs k ≡ slice_get (xs ++ ys) k
get_other [] ys k few other = get_short ys k few other
get_other (x ∷ xs) ys zero few other = refl
get_other (x ∷ xs) ys (suc k) few other = get_other xs ys k few (λ e. other (ap suc e))

get_second : {A : Type 0} (xs ys : List A) → slice_get (xs ++ ys) (length xs) ≡ slice_get ys 0
get_second [] ys = refl
get_second (x ∷ xs) ys = get_second xs ys

-- the boot table stands after the parts of what is booted
pub part_of_booted : (images : List Image) (h : Handing) → (h.part ≡ length (booted_parts images h.booted) → ⊥) → slice_get (booted_parts images h.booted) h.part ≡ slice_get (parts_handed images h) h.part
part_of_booted images h other = get_other (booted_parts images h.booted) (table_parts h.table) h.part (table_few h.table) other

pub part_of_table : (images : List Image) (h : Handing) → h.part ≡ length (booted_parts images h.booted) → slice_get (table_parts h.table) 0 ≡ slice_get (parts_handed images h) h.part
part_of_table images h e = sym (ap (slice_get (parts_handed images h)) e ∙ get_second (booted_parts images h.booted) (table_parts h.table))

-- how many parts there are, where an element is found among those of what is booted
pub part_early : (images : List Image) (h : Handing) (p : PartText) → length (booted_parts images h.booted) ≤ 65 → slice_get (booted_parts images h.booted) h.part ≡ Some p → h.part ≤ 65
part_early images h p few is = let within = slice_get_within (booted_parts images h.booted) h.part p is in omega (arith, within, few)

-- THE NEXT PIECE

-- a piece that stands next in its part has the next record
pub piece_comes : (list : ImageList) (h : Handing) (p : PartText) (piece : PieceText) (r : PieceRecord) → IsAtPiece list h → slice_get (parts_handed list.images h) h.part ≡ Some p →
    slice_get (part_pieces p.bytes) h.piece ≡ Some piece → piece_record p piece ≡ record_of r → r.bytes.now ≡ piece.bytes → IsNextPiece list.images h r
piece_comes list h p piece r at is got same bytes =
    let small = part_small list.images h h.part p at.booted at.short at.table is in
    let rest = drop (h.piece + 1) (part_records p) ++ flat_map part_records (drop (h.part + 1) (parts_handed list.images h)) in
    record {
      rest = rest;
      left = next_left (parts_handed list.images h) h.part h.piece p (piece_record p piece) is (get_map (piece_record p) (part_pieces p.bytes) h.piece piece got) ∙ ap (λ x. x ∷ rest) same;
      short = rw bytes (piece_at_place p.bytes h.piece piece small got).short;
    }

-- a part has few pieces
pub piece_early : (list : ImageList) (h : Handing) (p : PartText) → IsAtPiece list h → slice_get (parts_handed list.images h) h.part ≡ Some p → h.piece < 4097
piece_early list h p at is =
    let here : h.piece < length (part_records p) = rw is at at.piece in
    let small : length p.bytes ≤ 268435456 = part_small list.images h h.part p at.booted at.short at.table is in
    omega (arith, here, records_of_part p, pieces_length p.bytes, count_some (length p.bytes) small)

-- a place of a list has an element
get_some : {A : Type 0} (xs : List A) (k : ℕ) → k < length xs → (x : A) × (slice_get xs k ≡ Some x)
get_some [] k h = absurd (omega arith)
get_some (x ∷ xs) zero h = (x, refl)
get_some (x ∷ xs) (suc k) h = get_some xs k (omega arith)

-- the next record is passed
pub piece_passed : (list : ImageList) (h : Handing) (p : PartText) (last : Bool) → IsAtPiece list h → slice_get (parts_handed list.images h) h.part ≡ Some p →
    (h.piece + 1 == length (part_records p)) ≡ last → PassesNext list h (moved_on last h)
piece_passed list h p true at is at_end =
    let ps = parts_handed list.images h in
    let here : h.piece < length (part_records p) = rw is at at.piece in
    let one = get_some (part_records p) h.piece here in
    let last : h.piece + 1 ≡ length (part_records p) = eqb-true (h.piece + 1) (length (part_records p)) at_end in
    record {
      at = at_next list h at (part_within ps h.part p is);
      next = one.0;
      left = next_left ps h.part h.piece p one.0 is one.1 ∙ ap (λ rs. one.0 ∷ rs) (left_behind ps h.part h.piece p (drop_past (h.piece + 1) (part_records p) last));
    }
piece_passed list h p false at is within =
    let ps = parts_handed list.images h in
    let here : h.piece < length (part_records p) = rw is at at.piece in
    let one = get_some (part_records p) h.piece here in
    let other : h.piece + 1 ≡ length (part_records p) → ⊥ = eqb-false (h.piece + 1) (length (part_records p)) within in
    let more : h.piece + 1 < length (part_records p) = grind arith in
    record {
      at = at_piece list h p at is more;
      next = one.0;
      left = next_left ps h.part h.piece p one.0 is one.1 ∙ ap (λ rs. one.0 ∷ rs) (left_within ps h.part h.piece p is (omega (arith, more)));
    }

-- the record that comes next is the one that is passed
pub same_first : (x y : Out) (xs ys : List Out) → x ∷ xs ≡ y ∷ ys → x ≡ y
same_first x y xs ys e = cc

-- where a piece comes next, some are left
pub some_left : (images : List Image) (h : Handing) (r : PieceRecord) → IsNextPiece images h r → records_left images h ≡ [] → ⊥
some_left images h r n none = let no : [] ≡ record_of r ∷ n.rest = sym none ∙ n.left in cc

-- so a piece that was put is passed
pub piece_put : {before after : Logged} (list : ImageList) (old new : Handing) (r : PieceRecord) → IsNextPiece list.images old r → PassesNext list old new → Puts before after (out_text (record_of r)) →
    IsAtPiece list new × PutsNext list.images old new before after
piece_put {before} {after} list old new r comes passes puts =
    let same : record_of r ≡ passes.next = same_first _ _ _ _ (sym comes.left ∙ passes.left) in (
      passes.at,
      record { next = passes.next; left = passes.left; puts = subst (λ x. Puts before after (out_texts (x ∷ []))) same (Puts-one (record_of r) puts) },
    )
