use Rattle.std.proofs.Common.{◌≡◌, [], ◌+◌, ◌++◌, ◌∙◌, sym, refl, arith}
use Rattle.nb_script.specs.Joined.{closed, IsBegun}
use Rattle.nb_script.proofs.OkLemmas.{ok_three}
use Rattle.nb_script.proofs.JoinedLemmas.{backslash_fits, before_joined, before_closed, size_closed}
use Rattle.nb_script.proofs.joined.JoinedLines.add.Goals as goal

pub slice_bounds-hold-count : goal.slice_bounds-hold-count
slice_bounds-hold-count c = backslash_fits c.args.line.now (sym c.ends_in_backslash.ensures ∙ c.if-ends_in_backslash.true)

pub returns-then-ends_in_backslash-clause-lines : goal.returns-then-ends_in_backslash-clause-lines
returns-then-ends_in_backslash-clause-lines c =
    let h = c.hold.ensures in
    ok_three c.hold.result (before_joined c.args.self.now c.hold.new.self c.args.line.now _ (sym c.ends_in_backslash.ensures ∙ c.if-ends_in_backslash.true) refl) h.lines h.front h.held

all_lines : (c : goal.After-close) → c.hold-2.new.self.lines ++ closed c.hold-2.new.self.held c.hold-2.new.self.front ≡ c.args.self.now.lines ++ closed (c.args.self.now.held + 1) (c.args.self.now.front ++ c.args.line.now)
all_lines c = let e = c.in_ok-hold.ensures in rw (e.lines, e.front, e.held) refl

is_begun : (c : goal.After-close) → IsBegun c.hold-2.new.self
is_begun c = let e = c.in_ok-hold.ensures in λ z. absurd (omega (arith, e.held))

pub returns-clause-lines : goal.returns-clause-lines
returns-clause-lines c =
    let h = c.close.ensures in
    let old = c.args.self.now in
    let mid = c.hold-2.new.self in
    let new = c.close.new.self in
    ok_three c.close.result
    (λ (l : new.lines ≡ mid.lines ++ closed mid.held mid.front) (f : IsBegun mid → new.front ≡ []) (z : new.held ≡ 0).
    before_closed old new c.args.line.now (sym c.ends_in_backslash.ensures ∙ c.if-ends_in_backslash.false) (l ∙ all_lines c) (f (is_begun c)) z)
    h.lines h.front h.held

pub returns-clause-size : goal.returns-clause-size
returns-clause-size c =
    let h = c.close.ensures in
    let old = c.args.self.now in
    let mid = c.hold-2.new.self in
    let new = c.close.new.self in
    ok_three c.close.result
    (λ (l : new.lines ≡ mid.lines ++ closed mid.held mid.front) (f : IsBegun mid → new.front ≡ []) (z : new.held ≡ 0).
    size_closed old new c.args.line.now (l ∙ all_lines c) z)
    h.lines h.front h.held
