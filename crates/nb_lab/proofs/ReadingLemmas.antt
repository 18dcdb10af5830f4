-- What is read of an output record is what it shows.
use Rattle.std.proofs.Common.{◌≡◌, ℕ, ◌+◌, ◌-◌, ◌<◌, ◌≤◌, ◌^◌, ◌==◌, ◌++◌, Bool, true, false, List, [], ◌∷◌, length, take, drop, slice_index, nat_eq, Option, Some, None, IsSomeAnd, codes, if◌then◌else◌, append_assoc, refl, sym, ap, ◌∙◌, subst, arith}
use Rattle.std.specs.Int.{w16, w32, to_be_bytes, from_be_bytes}
use Rattle.std.specs.List.{flat_map, starts_with}
use Rattle.std.specs.Option.{option_map}
use Rattle.std.proofs.lemmas.Bool.{true≢false, le-ltb}
use Rattle.std.proofs.lemmas.List.{length-append, length-drop, take_all, take_at, drop_at}
use Rattle.std.proofs.lemmas.Nat.{from_be_bytes-to_be_bytes_4, be_bytes_4}
use Rattle.nb_terms.specs.declared.cause.Cause.{Cause}
use Rattle.nb_defs.specs.Records.{Out, step, sent, text, command, script, opened, tried, advanced, ended, graph, part, done, out_text, record_text, cause_text, event_text, word_text, flag_of}
use Rattle.nb_defs.specs.Records as defs
use Rattle.nb_lab.specs.declared.image.Image.{Image}
use Rattle.nb_lab.specs.Shows.{open_for, result, seen, image_numbered, image_named, image_at_url, image_of_open}
use Rattle.nb_lab.specs.Readings.{seen_by, image_by, begins_with_zero, BeginsWithRecord}
use Rattle.nb_wire.proofs.BytesLaws.{IsBytes, IsBytes-front, Splits, splits_of}

-- an output record's type and body, of which this is read
pub record IsRead (o : Out) : Type 0 where
  pub kind : ℕ
  pub body : List ℕ
  pub spelled : out_text o ≡ record_text kind body
  pub read : seen_by kind body ≡ seen o

zero_first : (c : Cause) → begins_with_zero (cause_text c) ≡ (c.code == 0)
unfolding cause_text
zero_first c = refl

by_long : (short : Bool) (image : Option Image) → short ≡ false → (if short then None else image) ≡ image
by_long true image h = absurd (true≢false h)
by_long false image h = refl

opened_body : (number kind server port own : ℕ) (target : List ℕ) → image_by (to_be_bytes w16 number ++ (kind ∷ []) ++ to_be_bytes w32 server ++ to_be_bytes w16 port ++ to_be_bytes w16 own ++ to_be_bytes w16 (length target) ++ target) ≡ image_of_open kind target
opened_body number kind server port own target = by_long _ _ (le-ltb _ _ (omega arith))

pub each_is_read : (o : Out) → IsRead o
unfolding out_text
each_is_read (step number) = record { kind = 0x81; body = to_be_bytes w32 number; spelled = refl; read = refl }
each_is_read (sent bytes) = record { kind = 0x82; body = bytes; spelled = refl; read = refl }
each_is_read (text bytes) = record { kind = 0x83; body = bytes; spelled = refl; read = refl }
each_is_read (command depth line place expanded words) = record {
  kind = 0x84;
  body = (depth ∷ []) ++ to_be_bytes w32 line ++ (place ∷ flag_of expanded ∷ length words ∷ []) ++ flat_map word_text words;
  spelled = refl;
  read = refl;
}
each_is_read (defs.result cause) = record {
  kind = 0x85;
  body = cause_text cause;
  spelled = refl;
  read = ap result (zero_first cause);
}
each_is_read (script what depth cause) = record {
  kind = 0x86;
  body = what ∷ depth ∷ cause_text cause;
  spelled = refl;
  read = refl;
}
each_is_read (opened number kind server port own target) = record {
  kind = 0x87;
  body = to_be_bytes w16 number ++ (kind ∷ []) ++ to_be_bytes w32 server ++ to_be_bytes w16 port ++ to_be_bytes w16 own ++ to_be_bytes w16 (length target) ++ target;
  spelled = refl;
  read = ap open_for (opened_body number kind server port own target);
}
each_is_read (tried number count) = record { kind = 0x88; body = to_be_bytes w16 number ++ (count ∷ []); spelled = refl; read = refl }
each_is_read (advanced number place) = record { kind = 0x89; body = to_be_bytes w16 number ++ to_be_bytes w32 place; spelled = refl; read = refl }
each_is_read (ended number cause) = record {
  kind = 0x8a;
  body = to_be_bytes w16 number ++ cause_text cause;
  spelled = refl;
  read = refl;
}
each_is_read (graph happens) = record { kind = 0x8b; body = event_text happens; spelled = refl; read = refl }
each_is_read (part kind index offset bytes) = record {
  kind = 0x8c;
  body = (kind ∷ []) ++ to_be_bytes w16 index ++ to_be_bytes w32 offset ++ bytes;
  spelled = refl;
  read = refl;
}
each_is_read (done status) = record { kind = 0x8d; body = status ∷ []; spelled = refl; read = refl }

-- a record's type and its length stand before its body
pub length-record_text : (kind : ℕ) (body : List ℕ) → length (record_text kind body) ≡ 5 + length body
unfolding record_text
length-record_text kind body = omega arith

-- what some records begin with
pub record IsFront (records : List ℕ) (kind : ℕ) (body rest : List ℕ) : Type 0 where
  pub len : from_be_bytes w32 (take 4 records) ≡ length body + 1
  pub long : length records ≡ 5 + length body + length rest
  pub whole : take (length body + 1) (drop 4 records) ≡ kind ∷ body
  pub after : drop (4 + (length body + 1)) records ≡ rest

is_front : (kind : ℕ) (body rest : List ℕ) → length body + 1 < 2 ^ 32 → IsFront (record_text kind body ++ rest) kind body rest
unfolding record_text
is_front kind body rest short = record {
  len = from_be_bytes-to_be_bytes_4 (length body + 1) short;
  long = omega (arith, length-append body rest);
  whole = take_at (kind ∷ body) rest (length body + 1) (omega arith);
  after = drop_at (record_text kind body) rest (4 + (length body + 1)) (omega arith);
}

pub front : (records : List ℕ) (kind : ℕ) (body rest : List ℕ) → length body + 1 < 2 ^ 32 → records ≡ record_text kind body ++ rest → IsFront records kind body rest
front records kind body rest short is =
    let P : List ℕ → Type 0 = λ x. IsFront x kind body rest in
    subst P (sym is) (is_front kind body rest short)

-- the length that is read, and the type and the body after it
module _ (records bytes : List ℕ) (kind : ℕ) (body rest : List ℕ) (f : IsFront records kind body rest) (same : bytes ≡ records) where
  pub front_len : (at n : ℕ) → at ≡ 0 → n ≡ from_be_bytes w32 (take 4 (drop at bytes)) → n ≡ length body + 1
  front_len at n start is =
      is ∙ ap (λ (k : ℕ). from_be_bytes w32 (take 4 (drop k bytes))) start ∙ ap (λ (x : List ℕ). from_be_bytes w32 (take 4 x)) same ∙ f.len

  pub front_record : (at n : ℕ) (entry : List ℕ) → at ≡ 4 → n ≡ length body + 1 → entry ≡ take n (drop at bytes) → entry ≡ kind ∷ body
  front_record at n entry start len is =
      is ∙ ap (λ (k : ℕ). take n (drop k bytes)) start ∙ ap (λ (k : ℕ). take k (drop 4 bytes)) len
      ∙ ap (λ (x : List ℕ). take (length body + 1) (drop 4 x)) same ∙ f.whole

  pub front_rest : (at : ℕ) → at ≡ 4 + (length body + 1) → drop at records ≡ rest
  front_rest at is = ap (λ (k : ℕ). drop k records) is ∙ f.after

-- a length in four bytes, and so many bytes after it, of which the first is the type
whole_record : (records head tail rest : List ℕ) (len kind : ℕ) (body : List ℕ) → IsBytes records → Splits 4 records head tail → Splits len tail (kind ∷ body) rest → len ≡ from_be_bytes w32 head → BeginsWithRecord records
unfolding record_text
whole_record records head tail rest len kind body fits first second is =
    let four = IsBytes-front 4 records head tail first fits in
    let count : len ≡ length body + 1 = omega (arith, second.len) in
    let number = to_be_bytes w32 (length body + 1) in
    let back : number ≡ head = be_bytes_4 head (length body + 1) first.len four (sym count ∙ is) in
    record {
      kind = kind;
      body = body;
      rest = rest;
      short = omega (arith, count, is, four 0, four 1, four 2, four 3);
      spelled = first.parts ∙ ap (λ (x : List ℕ). x ++ tail) (sym back) ∙ ap (λ (x : List ℕ). number ++ x) second.parts ∙ sym (append_assoc number (kind ∷ body) rest);
    }

-- what was read of them is a record that stands first
pub read_whole : (records before bytes entry body : List ℕ) (at after len kind : ℕ) → IsBytes records → before ≡ records → bytes ≡ records → at ≡ 0 → after ≡ 4 → len ≡ from_be_bytes w32 (take 4 (drop at before)) → after + len ≤ length bytes → entry ≡ take len (drop after bytes) → entry ≡ kind ∷ body → BeginsWithRecord records
read_whole records before bytes entry body at after len kind fits same_before same start four is long taken cut =
    let head = take 4 records in
    let tail = drop 4 records in
    let rest = drop len tail in
    let size = ap length same in
    let tail_len = length-drop 4 records in
    let first : Splits 4 records head tail = splits_of 4 records head tail refl refl (omega (arith, tail_len, size, long, four)) in
    let here : kind ∷ body ≡ take len tail =
    sym cut ∙ taken ∙ ap (λ (k : ℕ). take len (drop k bytes)) four ∙ ap (λ (x : List ℕ). take len (drop 4 x)) same in
    let second : Splits len tail (kind ∷ body) rest = splits_of len tail (kind ∷ body) rest here refl (omega (arith, length-drop len tail, tail_len, size, long, four)) in
    let number : len ≡ from_be_bytes w32 head =
    is ∙ ap (λ (k : ℕ). from_be_bytes w32 (take 4 (drop k before))) start ∙ ap (λ (x : List ℕ). from_be_bytes w32 (take 4 x)) same_before in
    whole_record records head tail rest len kind body fits first second number

-- what is None has nothing
pub no_value : {X : Type 0} (r : Option X) (P : X → Type 0) → r ≡ None → IsSomeAnd r P → ⊥
no_value None P is has = has
no_value (Some x) P is has = absurd (cc is)

first_of : List ℕ → ℕ
first_of [] = 0
first_of (x ∷ xs) = x

rest_of : List ℕ → List ℕ
rest_of [] = []
rest_of (x ∷ xs) = xs

pub same_seen : (k kind : ℕ) (b body : List ℕ) → k ∷ b ≡ kind ∷ body → seen_by k b ≡ seen_by kind body
unfolding first_of rest_of
same_seen k kind b body h = ap (λ (x : List ℕ). seen_by (first_of x) (rest_of x)) h

-- what stands from a place on
pub take_rest : (n : ℕ) (xs : List ℕ) → take (length xs - n) (drop n xs) ≡ drop n xs
take_rest n xs = take_all (length xs - n) (drop n xs) (omega (arith, length-drop n xs))

-- an image by its number, as it is read
pub named_is : (r : Option Image) (o : Option ℕ) → option_map (λ (image : Image). image.0) r ≡ o → r ≡ image_numbered o
named_is None o h = ap image_numbered h
named_is (Some i) o h = ap image_numbered h

pub url_at_root : (url : List ℕ) → starts_with nat_eq url (codes "http://10.0.0.1/") ≡ true → image_named (drop 16 url) ≡ image_at_url url
url_at_root url h = sym (ap (λ (b : Bool). if b then image_named (drop 16 url) else None) h)

-- an open's body that has a target
pub long_body : (body : List ℕ) → 13 ≤ length body → image_of_open (slice_index body 2) (drop 13 body) ≡ image_by body
long_body body long = sym (by_long _ _ (le-ltb _ _ long))
