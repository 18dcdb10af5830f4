-- The bytes that ask for a drive are read back, and they are few.
use Rattle.std.proofs.Common.{◌≡◌, ℕ, ◌*◌, ◌<◌, ◌≤◌, ◌^◌, cond, List, [], ◌∷◌, ◌++◌, length, take, drop, Option, Some, None, refl, sym, ◌∙◌, ap, length-append, append-nil, append_assoc, get_or, arith}
use Rattle.std.specs.Prelude.{option_and_then}
use Rattle.std.specs.Int.{w32, to_be_bytes}
use Rattle.std.specs.List.{AllByRecursion, flat_map}
use Rattle.std.specs.Option.{option_map}
use Rattle.std.proofs.Math.Seq.{take-append_seam, drop-append_seam}
use Rattle.std.proofs.lemmas.Bool.{le-leb}
use Rattle.std.proofs.lemmas.Nat.{from_be_bytes-to_be_bytes_2, from_be_bytes-to_be_bytes_4}
use Rattle.nb_iscsipdu.specs.Heads.{word_at}
use Rattle.nb_conns.specs.ConnAsks.{conn_ask_bytes, conn_ask_in}
use Rattle.nb_drivenodes.specs.declared.drive_ask.DriveAsk.{DriveAsk}
use Rattle.nb_drivenodes.specs.DriveAsks.{ask_parts_of, drive_ask_by, drive_ask_in, info_by, name_list, names_in, next_text, text_after, words_of}
use Rattle.nb_drivenodes.proofs.AskLemmas.{ask-cut}
use Rattle.nb_open.specs.DriveBytes.{HasShortDriveNames, drive_ask_bytes, text_bytes, word_bytes}

-- THE NAMES

text_back : (text rest : List ℕ) → length text ≤ 65535 → next_text (text_bytes text ++ rest) ≡ Some (text, rest)
text_back text rest short =
    let fits : length text < 2 ^ 16 = omega (arith, short) in
    let first : length text ≤ length (text ++ rest) = let all = length-append text rest in omega (arith, all) in
    ap (λ n. text_after n (text ++ rest)) (from_be_bytes-to_be_bytes_2 (length text) fits)
    ∙ (ap (λ b. cond b (Some (take (length text) (text ++ rest), drop (length text) (text ++ rest))) None) (le-leb (length text) (length (text ++ rest)) first)
    ∙ (ap (λ z. Some (z, drop (length text) (text ++ rest))) (take-append_seam text rest) ∙ ap (λ z. Some (text, z)) (drop-append_seam text rest)))

pub texts_back : (texts : List (List ℕ)) → AllByRecursion (λ (text : List ℕ). length text ≤ 65535) texts → names_in (length texts) (flat_map text_bytes texts) ≡ Some texts
texts_back [] short = refl
texts_back (t ∷ ts) short =
    ap (λ (z : Option (List ℕ × List ℕ)). option_and_then (λ (r : List ℕ × List ℕ). option_map (λ (later : List (List ℕ)). r.0 ∷ later) (names_in (length ts) r.1)) z) (text_back t (flat_map text_bytes ts) short.0)
    ∙ ap (option_map (λ (later : List (List ℕ)). t ∷ later)) (texts_back ts short.1)

pub texts_few : (texts : List (List ℕ)) → AllByRecursion (λ (text : List ℕ). length text ≤ 65535) texts → length (flat_map text_bytes texts) ≤ length texts * 65537
texts_few [] short = omega arith
texts_few (t ∷ ts) short =
    let later = texts_few ts short.1 in
    let all = length-append (text_bytes t) (flat_map text_bytes ts) in
    omega (arith, short.0, later, all)

-- THE WORDS

words_back : (a b c d e f g h : ℕ) → a < 2 ^ 32 → b < 2 ^ 32 → c < 2 ^ 32 → d < 2 ^ 32 → e < 2 ^ 32 → f < 2 ^ 32 → g < 2 ^ 32 → h < 2 ^ 32
    → words_of (word_bytes (a ∷ b ∷ c ∷ d ∷ e ∷ f ∷ g ∷ h ∷ [])) ≡ a ∷ b ∷ c ∷ d ∷ e ∷ f ∷ g ∷ h ∷ []
unfolding word_at
words_back a b c d e f g h i j k l m n o p =
    rw (from_be_bytes-to_be_bytes_4 a i, from_be_bytes-to_be_bytes_4 b j, from_be_bytes-to_be_bytes_4 c k, from_be_bytes-to_be_bytes_4 d l, from_be_bytes-to_be_bytes_4 e m, from_be_bytes-to_be_bytes_4 f n, from_be_bytes-to_be_bytes_4 g o, from_be_bytes-to_be_bytes_4 h p) refl

-- WHAT IS PUSHED

abbrev pub pushed : {X : Type 0} (f : X → List ℕ) → List ℕ → List X → List ℕ
pushed f b [] = b
pushed f b (x ∷ xs) = pushed f (b ++ f x) xs

pub pushed_all : {X : Type 0} (f : X → List ℕ) (b : List ℕ) (xs : List X) → pushed f b xs ≡ b ++ flat_map f xs
pushed_all f b [] = sym (append-nil b)
pushed_all f b (x ∷ xs) = pushed_all f (b ++ f x) xs ∙ append_assoc b (f x) (flat_map f xs)

-- eight numbers, one by one
pub eight : (ws : List ℕ) → length ws ≡ 8
    → ws ≡ get_or ws 0 0 ∷ get_or ws 1 0 ∷ get_or ws 2 0 ∷ get_or ws 3 0 ∷ get_or ws 4 0 ∷ get_or ws 5 0 ∷ get_or ws 6 0 ∷ get_or ws 7 0 ∷ []
eight (a ∷ b ∷ c ∷ d ∷ e ∷ f ∷ g ∷ h ∷ []) is = refl
eight [] is = absurd (omega (arith, is))
eight (a ∷ []) is = absurd (omega (arith, is))
eight (a ∷ b ∷ []) is = absurd (omega (arith, is))
eight (a ∷ b ∷ c ∷ []) is = absurd (omega (arith, is))
eight (a ∷ b ∷ c ∷ d ∷ []) is = absurd (omega (arith, is))
eight (a ∷ b ∷ c ∷ d ∷ e ∷ []) is = absurd (omega (arith, is))
eight (a ∷ b ∷ c ∷ d ∷ e ∷ f ∷ []) is = absurd (omega (arith, is))
eight (a ∷ b ∷ c ∷ d ∷ e ∷ f ∷ g ∷ []) is = absurd (omega (arith, is))
eight (a ∷ b ∷ c ∷ d ∷ e ∷ f ∷ g ∷ h ∷ i ∷ more) is = absurd (omega (arith, is))

pub words_pushed : (b ws : List ℕ) → length ws ≡ 8
    → pushed (to_be_bytes w32) b (get_or ws 0 0 ∷ get_or ws 1 0 ∷ get_or ws 2 0 ∷ get_or ws 3 0 ∷ get_or ws 4 0 ∷ get_or ws 5 0 ∷ get_or ws 6 0 ∷ get_or ws 7 0 ∷ []) ≡ b ++ word_bytes ws
words_pushed b ws is = ap (pushed (to_be_bytes w32) b) (sym (eight ws is)) ∙ pushed_all (to_be_bytes w32) b ws

-- ALL OF IT

-- the numbers of these words are as large as they may be
abbrev pub AreWords : List ℕ → Type 0
AreWords ws = (i : ℕ) → get_or ws i 0 < 2 ^ 32

all_words_back : (ws : List ℕ) → length ws ≡ 8 → AreWords ws → words_of (word_bytes ws) ≡ ws
all_words_back ws is fit =
    ap (λ z. words_of (word_bytes z)) (eight ws is)
    ∙ (words_back (get_or ws 0 0) (get_or ws 1 0) (get_or ws 2 0) (get_or ws 3 0) (get_or ws 4 0) (get_or ws 5 0) (get_or ws 6 0) (get_or ws 7 0) (fit 0) (fit 1) (fit 2) (fit 3) (fit 4) (fit 5) (fit 6) (fit 7)
    ∙ sym (eight ws is))

words_long : (ws : List ℕ) → length ws ≡ 8 → length (word_bytes ws) ≡ 32
words_long ws is = ap (λ z. length (word_bytes z)) (eight ws is)

pub drive_reads_back : (a : DriveAsk) → conn_ask_in (conn_ask_bytes a.conn) ≡ Some a.conn → length a.lun ≡ 8 → length a.words ≡ 8 → AreWords a.words → HasShortDriveNames a.names
    → drive_ask_in (drive_ask_bytes a) ≡ Some (ask_parts_of a)
drive_reads_back a conn lun words fit short =
    let r3 = flat_map text_bytes (name_list a.names) in
    let r2 = word_bytes a.words ++ r3 in
    let r1 = a.lun ++ r2 in
    let l2 = length-append (word_bytes a.words) r3 in
    let l1 = length-append a.lun r2 in
    let l0 = length-append (conn_ask_bytes a.conn) r1 in
    let w32s = words_long a.words words in
    let sixteen : length (conn_ask_bytes a.conn) ≡ 16 = refl in
    let cut = ask-cut (drive_ask_bytes a) r1 r2 r3 (conn_ask_bytes a.conn) a.lun (word_bytes a.words) (Some a.conn) (Some (name_list a.names))
    refl refl (omega (arith, l0, sixteen))
    (sym (ap (λ n. take n r1) (sym lun) ∙ take-append_seam a.lun r2)) (sym (ap (λ n. drop n r1) (sym lun) ∙ drop-append_seam a.lun r2)) (omega (arith, l1, lun))
    (sym (ap (λ n. take n r2) (sym w32s) ∙ take-append_seam (word_bytes a.words) r3)) (sym (ap (λ n. drop n r2) (sym w32s) ∙ drop-append_seam (word_bytes a.words) r3)) (omega (arith, l2, w32s))
    (sym conn) (sym (texts_back (name_list a.names) short)) in
    sym cut ∙ ap (λ z. drive_ask_by (Some a.conn) (info_by a.lun z (name_list a.names))) (all_words_back a.words words fit)

pub drive_few : (a : DriveAsk) → length a.lun ≡ 8 → length a.words ≡ 8 → HasShortDriveNames a.names → length (drive_ask_bytes a) < 2 ^ 32
drive_few a lun words short =
    let r3 = flat_map text_bytes (name_list a.names) in
    let r2 = word_bytes a.words ++ r3 in
    let r1 = a.lun ++ r2 in
    let l2 = length-append (word_bytes a.words) r3 in
    let l1 = length-append a.lun r2 in
    let l0 = length-append (conn_ask_bytes a.conn) r1 in
    let few = texts_few (name_list a.names) short in
    let w32s = words_long a.words words in
    omega (arith, l0, l1, l2, lun, w32s, few)

-- one after the other
pub drive_joined : (a : DriveAsk) (items : List ℕ) → items ≡ pushed text_bytes ((conn_ask_bytes a.conn ++ a.lun) ++ word_bytes a.words) (name_list a.names) → items ≡ drive_ask_bytes a
drive_joined a items are =
    are ∙ (pushed_all text_bytes ((conn_ask_bytes a.conn ++ a.lun) ++ word_bytes a.words) (name_list a.names)
    ∙ (append_assoc (conn_ask_bytes a.conn ++ a.lun) (word_bytes a.words) (flat_map text_bytes (name_list a.names))
    ∙ append_assoc (conn_ask_bytes a.conn) a.lun (word_bytes a.words ++ flat_map text_bytes (name_list a.names))))
