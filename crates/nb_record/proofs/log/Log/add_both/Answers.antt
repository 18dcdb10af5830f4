use Rattle.std.proofs.Common.{◌≡◌, ℕ, ◌+◌, ◌≤◌, List, ◌++◌, length, take, ap, ◌∙◌, append_assoc, arith}
use Rattle.nb_record.proofs.LogLemmas.{Puts-written}
use Rattle.nb_record.proofs.log.Log.add_both.Goals as goal

pub returns : goal.returns
returns c =
    let old = c.self.inside in
    let head = c.args.head.now in
    let body = c.args.body.now in
    let before : List ℕ = take old.len old.bytes.items in
    let within : old.len ≤ length old.bytes.items = omega (arith, c.self.invariant.0) in
    let items = c.copy_behind-2.new.bytes.items in
    let first : take (old.len + length head) c.copy_behind.new.bytes.items ≡ before ++ head =
    c.copy_behind.ensures.held ∙ ap (λ (w : List ℕ). w ++ head) (c.has_room.ensures.kept old.len within) in
    let held : take (old.len + length head + length body) items ≡ before ++ (head ++ body) =
    c.copy_behind-2.ensures.held ∙ ap (λ (w : List ℕ). w ++ body) first ∙ append_assoc before head body in
    Puts-written c.args.self.now old.len (old.len + length head + length body) old.room old.short old.bytes.items items (head ++ body)
    c.self.view_is c.if-self.false held
