use Rattle.std.proofs.Common.{◌≡◌, ◌∙◌, ◌≤◌, Bool, true, false, not, refl, sym, ap}
use Rattle.std.specs.Prelude.{is_none, unwrap_or}
use Rattle.nb_settings.specs.Keys.{key_of}
use Rattle.nb_settings.specs.Names.{name_of}
use Rattle.nb_settings.specs.Tables.{count_in, own_value, value_of}
use Rattle.nb_command.specs.Settings.{named_block}
use Rattle.nb_command.proofs.AddressLemmas.{full_block, mapped}
use Rattle.nb_command.proofs.address.is_full.Goals as goal

turned : (b other : Bool) → other ≡ not b → b ≡ not other
turned true other is = rw is refl
turned false other is = rw is refl

pub returns-then-count-ge-MAX_SETTINGS : goal.returns-then-count-ge-MAX_SETTINGS
returns-then-count-ge-MAX_SETTINGS c =
    let block = named_block (name_of c.args.name.now) in
    let key = key_of c.args.name.now.key in
    let table = c.args.table.now in
    let count : c.unwrap_or-count.result ≡ unwrap_or (count_in block table) 0 =
    c.unwrap_or-count.ensures ∙ ap (λ o. unwrap_or o 0) (c.count.ensures.value ∙ ap (λ b. count_in b table) c.block_of.ensures) in
    let many : 128 ≤ unwrap_or (count_in block table) 0 = rw count at c.if-count-ge-MAX_SETTINGS.true in
    let own : is_none c.own.result ≡ is_none (own_value block key table) =
    sym (mapped value_of c.own.result) ∙ ap is_none (c.own.ensures.value ∙ ap (λ b. own_value b key table) c.block_of-then-count-ge-MAX_SETTINGS.ensures) in
    turned _ _ c.is_none.ensures ∙ own ∙ full_block block key table c.requires many
