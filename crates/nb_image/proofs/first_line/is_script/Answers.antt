use Rattle.std.proofs.Common.{◌≡◌, ◌&&◌, ◌∙◌, length, drop, sym, ap, arith, lit≤, nat_eq, true, false}
use Rattle.std.specs.Prelude.{codes}
use Rattle.std.specs.List.{starts_with}
use Rattle.nb_image.specs.FirstLine.{ends_blank}
use Rattle.nb_image.proofs.FirstLineLemmas.{script_is, starts_same}
use Rattle.nb_image.proofs.first_line.is_script.Goals as goal

pub returns-then-starts_with : goal.returns-then-starts_with
returns-then-starts_with c =
    let body = c.args.body.now in
    let begins : starts_with nat_eq body (codes "#!ipxe") ≡ true =
    sym (starts_same body (codes "#!ipxe") (lit≤ tt)) ∙ ap (λ start. starts_with nat_eq start (codes "#!ipxe")) (sym c.start_of.ensures) ∙ sym c.starts_with.ensures.value ∙ c.if-starts_with.true in
    c.ends_blank.ensures ∙ sym (script_is body ∙ ap (λ b. b && ends_blank (drop 6 body)) begins)

pub returns-else-starts_with : goal.returns-else-starts_with
returns-else-starts_with c =
    let body = c.args.body.now in
    let begins : starts_with nat_eq body (codes "#!ipxe") ≡ false =
    sym (starts_same body (codes "#!ipxe") (lit≤ tt)) ∙ ap (λ start. starts_with nat_eq start (codes "#!ipxe")) (sym c.start_of.ensures) ∙ sym c.starts_with.ensures.value ∙ c.if-starts_with.false in
    c.if-starts_with.false ∙ sym (script_is body ∙ ap (λ b. b && ends_blank (drop 6 body)) begins)
