use Rattle.std.proofs.Common.{◌≡◌, ◌+◌, ◌-◌, ◌*◌, ◌≤◌, ◌++◌, ◌∷◌, ◌∙◌, [], Some, length, take, sym, ap, arith}
use Rattle.std.specs.List.{concat}
use Rattle.std.proofs.lemmas.List.{length_push}
use Rattle.std.proofs.lemmas.List.Elements.{All-pop}
use Rattle.nb_image.specs.Pages.{IsFullPage, all_bytes}
use Rattle.nb_image.proofs.PagesLemmas.{length_all, length_full, length_pages, popped, cut_is}
use Rattle.nb_image.proofs.pages.Pages.cut.Goals as goal

pub loop-self-preserved-in-Some : goal.loop-self-preserved-in-Some
loop-self-preserved-in-Some c =
    let was = c.loop-self.self in
    let inv = c.loop-self.invariant in
    let pages = c.pop.new.self.items in
    let page = c.in-Some.page in
    let items : was.full.items ≡ pages ++ page ∷ [] = c.in-Some.ensures.items in
    let same : c.into_vec.result.items ≡ page = c.into_vec.ensures in
    let full = All-pop IsFullPage was.full.items pages (Some page) items inv.0.full in
    let len : length c.into_vec.result.items ≡ 65536 = ap length same ∙ full.1 in
    let more : length was.full.items ≡ length pages + 1 = ap length items ∙ length_push pages page in
    let within : c.args.len ≤ length (concat pages ++ page) = omega (arith, length_pages pages page full.0, full.1, more, was.full.ok.0) in (
      record { full = full.0; last = omega (arith, len); few = omega (arith, inv.0.few, more) },
      omega (arith, within, ap (λ bytes. length (concat pages ++ bytes)) same),
      ap (λ bytes. take c.args.len (concat pages ++ bytes)) same
          ∙ sym (popped pages page was.last.items c.args.len within)
          ∙ ap (λ ps. take c.args.len (concat ps ++ was.last.items)) (sym items)
          ∙ inv.2,
    )

pub returns-clause-bytes : goal.returns-clause-bytes
returns-clause-bytes c =
    let was = c.loop-self.self in
    let inv = c.loop-self.invariant in
    let k = c.args.len - c.len-2.result * 65536 in
    let at : length (concat was.full.items) + k ≡ c.args.len = omega (arith, length_full was.full.items inv.0.full, was.full.ok.0) in
    ap (λ bytes. concat was.full.items ++ bytes) c.truncate.ensures.items ∙ cut_is was.full.items was.last.items c.args.len k at ∙ inv.2
