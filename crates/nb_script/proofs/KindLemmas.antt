-- What a line is.
use Rattle.std.proofs.Common.{◌≡◌, ℕ, zero, suc, ◌+◌, ◌-◌, ◌≤◌, true, false, List, length, take, drop, refl, ap, arith}
use Rattle.std.specs.List.{suffix_len}
use Rattle.nb_defs.specs.ScriptText.{is_label, is_blank}
use Rattle.nb_defs.specs.ScriptLines.{label, list, empty, is_nothing, line_kind, without_blanks_behind}

pub kind_nothing : (line : List ℕ) → is_nothing line ≡ true → line_kind line ≡ empty
unfolding line_kind
kind_nothing line e = rw e refl

pub kind_label : (line : List ℕ) → is_nothing line ≡ false → is_label line ≡ true → line_kind line ≡ label (drop 1 line)
unfolding line_kind
kind_label line e f = rw (e, f) refl

pub kind_list : (line : List ℕ) → is_nothing line ≡ false → is_label line ≡ false → line_kind line ≡ list line
unfolding line_kind
kind_list line e f = rw (e, f) refl

-- the line's end, from where its last byte is no blank
pub behind_is : (line : List ℕ) (len : ℕ) → len ≤ length line → len + suffix_len is_blank line ≡ length line + suffix_len is_blank (take len line) → suffix_len is_blank (take len line) ≡ 0 → take len line ≡ without_blanks_behind line
unfolding without_blanks_behind
behind_is line len fits h e =
    let n : len ≡ length line - suffix_len is_blank line = omega (arith, h, e) in
    ap (λ n. take n line) n

pub behind_none : (line : List ℕ) (len : ℕ) → len ≤ 0 → suffix_len is_blank (take len line) ≡ 0
behind_none line zero h = refl
behind_none line (suc len) h = absurd (omega arith)
