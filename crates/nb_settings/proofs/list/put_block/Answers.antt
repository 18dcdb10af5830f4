use Rattle.std.proofs.Common.{rules, tests, not, ◌≡◌, ◌∙◌, ap, sym, refl, List, [], ◌∷◌, ◌++◌, w8}
use Rattle.std.specs.Prelude.{filter}
use Rattle.std.proofs.lemmas.Int.{to_z-of_z}
use Rattle.std.proofs.lemmas.Fn.{filter_same}
use Rattle.nb_settings.specs.Tables.{is_named, block_of}
use Rattle.nb_settings.specs.declared.block.Block.{Block}
use Rattle.nb_settings.proofs.TableLemmas.{with_block_is}
use Rattle.nb_settings.proofs.list.put_block.Goals as goal

pub returns-clause-ok : goal.returns-clause-ok
returns-clause-ok c =
    let others = λ (b : Block). not (is_named c.args.name.now b) in
    let kept = filter_same _ others _ (λ x b f' called. search (rules, tests)) _ _ c.retain.ensures.filtered in
    let made : c.in_ok-block.block ≡ block_of c.args.name.now c.args.priority =
    c.in_ok-block.ensures ∙ ap (block_of c.args.name.now) (to_z-of_z w8 c.args.priority c.ranges.priority) in
    let new : c.push.new.self.items ≡ filter others c.args.blocks.now.items ++ block_of c.args.name.now c.args.priority ∷ [] =
    c.in_ok-push.ensures.items
    ∙ ap (λ (bs : List Block). bs ++ c.in_ok-block.block ∷ []) (kept ∙ ap (filter others) c.reserve.ensures.items)
    ∙ ap (λ (b : Block). filter others c.args.blocks.now.items ++ b ∷ []) made in
    with_block_is c.args.name.now (block_of c.args.name.now c.args.priority) c.args.blocks.now.items c.push.new.self.items (sym c.is_empty.ensures ∙ c.if-is_empty.false) refl new
