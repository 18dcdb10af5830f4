use Rattle.std.proofs.Common.{◌≡◌, ℕ, ◌+◌, ◌-◌, min, List, ◌++◌, length, slice_range, ap, sym, ◌∙◌, append_assoc, arith}
use Rattle.nb_lab.specs.Pages.{head_text, body_piece}
use Rattle.nb_lab.proofs.PageLemmas.{two_parts}
use Rattle.nb_lab.proofs.page.Page.put.Goals as goal

pub returns : goal.returns
returns c =
    let page = c.args.self in
    let start = c.min-start.result in
    let stop = c.min.result in
    let first = c.min-2.result in
    let last = c.min-body_end.result in
    let text : c.as_slice.result.now ≡ head_text page = c.as_slice.ensures.value ∙ c.head-head.ensures.text in
    let size = ap length c.head-head.ensures.text in
    let body = body_piece page first (last - first) in
    let whole = two_parts page c.args.from c.args.len start stop first last
    (omega (arith, size)) (omega (arith, size, c.from.ensures)) (omega (arith, size, c.from.ensures)) (omega (arith, size)) in
    record {
      put =
          c.put_body.ensures.put
          ∙ ap (λ (x : List ℕ). x ++ body) c.push.ensures.appended
          ∙ append_assoc c.args.out.now.written (slice_range c.as_slice.result.now start stop) body
          ∙ ap (λ (x : List ℕ). c.args.out.now.written ++ (slice_range x start stop ++ body)) text
          ∙ ap (λ (x : List ℕ). c.args.out.now.written ++ x) (sym whole);
    }
