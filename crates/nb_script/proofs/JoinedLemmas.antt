-- How lines are joined: what an open line becomes, and the lines of a text, line by line.
use Rattle.std.proofs.Common.{◌≡◌, ℕ, zero, suc, ◌+◌, ◌-◌, ◌≤◌, true, false, ◌<◌, ◌==◌, List, [], ◌∷◌, ◌++◌, length, take, drop, Some, None, refl, sym, ap, arith, append_assoc, add-one, length-append}
use Rattle.std.specs.Prelude.{position}
use Rattle.std.proofs.lemmas.List.{append-nil}
use Rattle.std.proofs.lemmas.Bool.Decides.{nat_tests}
use Rattle.nb_defs.specs.ScriptText.{is_line_feed, pieces, without_cr, ends_in_backslash}
use Rattle.nb_defs.specs.ScriptLines.{joined_onto, line_before, joined_contents, joined_lines}
use Rattle.nb_script.specs.Joined.{Joined, size_of, closed, resumed, lines_before, last_line}
use Rattle.nb_script.proofs.PiecesLemmas.{pieces_some, pieces_none, pieces_cons, position_none}

before_cons : (p : List ℕ) (ps : List (List ℕ)) (q : List ℕ) (qs : List (List ℕ)) → ps ≡ q ∷ qs → joined_contents (p ∷ ps) ≡ line_before (without_cr p) (joined_contents ps)
unfolding joined_contents
before_cons p ps q qs e = rw e refl

-- the first line of a text with a line feed, before the lines after it
pub joined_lines_some : (text : List ℕ) (n : ℕ) → position is_line_feed text ≡ Some n → joined_lines text ≡ line_before (without_cr (take n text)) (joined_lines (drop (n + 1) text))
unfolding joined_lines
joined_lines_some text n h =
    let rest = pieces is_line_feed (drop (n + 1) text) in
    let some = pieces_cons is_line_feed (drop (n + 1) text) in
    rw (pieces_some is_line_feed text n h) (before_cons (take n text) rest some.0 some.1 some.2)

-- a text with no line feed is a line, where it isn't empty
pub joined_lines_none : (text : List ℕ) → position is_line_feed text ≡ None → joined_lines text ≡ last_line text
unfolding joined_lines joined_contents
joined_lines_none text h = rw (pieces_none is_line_feed text (position_none is_line_feed text h)) refl

-- an empty line more among empty lines
empty_more : (held : ℕ) (behind : List (List ℕ)) → [] ∷ (closed held [] ++ behind) ≡ closed held [] ++ [] ∷ behind
empty_more zero behind = refl
empty_more (suc held) behind = ap (λ ls. [] ∷ ls) (empty_more held behind)

-- more of the open line
pub resumed_joined : (held : ℕ) (front more : List ℕ) (behind : List (List ℕ)) → resumed (held + 1) (front ++ more) behind ≡ resumed held front (joined_onto more behind)
resumed_joined held front more [] = rw (add-one held) (sym (append-nil (closed (suc held) (front ++ more))))
resumed_joined held front more (line ∷ behind) =
    rw (add-one held, append_assoc front more line) (ap (λ ls. (front ++ (more ++ line)) ∷ ls) (empty_more held behind))

-- where no line is open
pub resumed_none : (behind : List (List ℕ)) → resumed 0 [] behind ≡ behind
resumed_none [] = refl
resumed_none (line ∷ behind) = refl

-- a line that is joined to the next
pub before_joined : (old new : Joined) (line more : List ℕ) → ends_in_backslash line ≡ true → more ≡ take (length line - 1) line → new.lines ≡ old.lines → new.front ≡ old.front ++ more → new.held ≡ old.held + 1 → (behind : List (List ℕ)) → lines_before new behind ≡ lines_before old (line_before line behind)
before_joined old new line more joined m l f h behind =
    rw (l, f, h, joined, ← m) (ap (λ ls. old.lines ++ ls) (resumed_joined old.held old.front more behind))

-- a line that isn't
pub before_closed : (old new : Joined) (line : List ℕ) → ends_in_backslash line ≡ false → new.lines ≡ old.lines ++ closed (old.held + 1) (old.front ++ line) → new.front ≡ [] → new.held ≡ 0 → (behind : List (List ℕ)) → lines_before new behind ≡ lines_before old (line_before line behind)
before_closed old new line whole l f h behind =
    rw (l, f, h, whole, resumed_none behind, add-one old.held) (append_assoc old.lines (closed (suc old.held) (old.front ++ line)) behind)

pub length-closed : (held : ℕ) (front : List ℕ) → length (closed held front) ≡ held
length-closed zero front = refl
length-closed (suc held) front = ap suc (length-closed held [])

-- the open line is put
pub put_keeps : (old new : Joined) → new.lines ≡ old.lines ++ old.front ∷ [] → new.front ≡ [] → new.held + 1 ≡ old.held → new.lines ++ closed new.held new.front ≡ old.lines ++ closed old.held old.front
put_keeps old new l f h =
    rw (← h, l, f, add-one new.held) (append_assoc old.lines (old.front ∷ []) (closed new.held []))

pub backslash_fits : (line : List ℕ) → ends_in_backslash line ≡ true → 1 ≤ length line
unfolding ends_in_backslash
backslash_fits [] e = cc
backslash_fits (b ∷ line) e = omega arith

pub size_closed : (old new : Joined) (line : List ℕ) → new.lines ≡ old.lines ++ closed (old.held + 1) (old.front ++ line) → new.held ≡ 0 → size_of new ≡ size_of old + 1
size_closed old new line l h =
    omega (arith, ap length l, h, length-append old.lines (closed (old.held + 1) (old.front ++ line)), length-closed (old.held + 1) (old.front ++ line))

-- what stands after the last line feed was taken
pub record HasEnded (old new : Joined) (rest : List ℕ) : Type 0 where
  pub lines : new.lines ≡ lines_before old (last_line rest)
  pub size : length new.lines ≤ size_of old + length rest

pub end_with : (old new : Joined) (rest : List ℕ) → (length rest == 0) ≡ false → new.lines ≡ old.lines ++ closed (old.held + 1) (old.front ++ rest) → HasEnded old new rest
end_with old new rest e l =
    let some : 0 < length rest = grind (arith, nat_tests) in
    record {
      lines = rw (e, append-nil (closed (suc old.held) (old.front ++ rest))) (rw (add-one old.held) at l);
      size = omega (arith, ap length l, length-append old.lines (closed (old.held + 1) (old.front ++ rest)), length-closed (old.held + 1) (old.front ++ rest));
    }

pub end_without : (old new : Joined) (rest : List ℕ) → (length rest == 0) ≡ true → new.lines ≡ old.lines ++ closed old.held old.front → HasEnded old new rest
end_without old new rest e l = record {
  lines = rw e l;
  size = omega (arith, ap length l, length-append old.lines (closed old.held old.front), length-closed old.held old.front);
}
