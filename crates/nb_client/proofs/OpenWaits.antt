-- What waits beside an open, and what is let go; and records that were gathered first.
use Rattle.std.proofs.Common.{◌≡◌, ℕ, false, List, [], ◌∷◌, ◌++◌, Option, Some, None, sym, ◌∙◌, ap, subst, append-nil}
use Rattle.nb_chains.specs.declared.chain.Chain.{Chain}
use Rattle.nb_chains.specs.declared.kind.ChainKind.{ChainKind}
use Rattle.nb_defs.specs.Records.{out_texts, result}
use Rattle.nb_machine.specs.Running.{Running}
use Rattle.nb_network.specs.Closings.{GivesUpWaiting}
use Rattle.nb_network.specs.Many.{AreSound, FitsHoldings, IsNewestBut, IsStateOf, Many, WaitsBeside}
use Rattle.nb_record.specs.Logged.{Logged, Puts}
use Rattle.nb_runner.proofs.Puts.{Puts-nothing, Puts-outs}
use Rattle.nb_terms.specs.declared.cause.Cause.{Cause}
use Rattle.nb_traced.specs.Holdings.{GraphObject}
use Rattle.nb_traced.specs.Outputs.{Traced}
use Rattle.nb_traced.specs.Pieces.{event_records}
use Rattle.nb_client.specs.Beginnings.{DropsWaiting}
use Rattle.nb_client.specs.Openings.{Opened, OpensNext, opens_it, opens_none}
use Rattle.nb_client.specs.Snapshots.{Snapshot}
use Rattle.nb_client.specs.Soundness.{HasWaiting, IsClean}
use Rattle.nb_client.specs.declared.asked.Asked.{Asked}
use Rattle.nb_client.specs.declared.pending.Next.{Next}
use Rattle.nb_client.specs.declared.site.Site.{Site}
use Rattle.nb_client.proofs.Waits.{gathered_puts}

-- WHAT WAITS

none_some : (x : Chain) → ◌≡◌ {A = Option Chain} None (Some x) → ⊥
none_some x e = absurd (cc)

same_some : (x y : Chain) → ◌≡◌ {A = Option Chain} (Some x) (Some y) → x ≡ y
same_some x y e = cc

pub nothing_waits : (kind : ChainKind) (awaited : Option ℕ) (m : Many) → HasWaiting kind None awaited m
nothing_waits kind awaited m = record { beside = λ x e. absurd (none_some x e); newest = λ x e. absurd (none_some x e) }

pub one_waits : (kind : ChainKind) (c : Chain) (awaited : Option ℕ) (m : Many) → WaitsBeside kind c m → IsNewestBut awaited c m → HasWaiting kind (Some c) awaited m
one_waits kind c awaited m beside newest = record {
  beside = λ x e. subst (λ y. WaitsBeside kind y m) (same_some c x e) beside;
  newest = λ x e. subst (λ y. IsNewestBut awaited y m) (same_some c x e) newest;
}

-- WHAT IS LET GO

-- nothing waits, and nothing is put
pub lets_nothing : {log : Logged} (kind : ChainKind) (waits : Option Chain) (opens : ℕ) (before after : Site) → waits ≡ None → after.opens ≡ before.opens → AreSound before.world.w opens before.world.net before.opens →
    DropsWaiting kind waits opens before after [] log log
lets_nothing {log} kind waits opens before after none same sound = subst (λ x. DropsWaiting kind x opens before after [] log log) (sym none) (record {
  events = [];
  puts = Puts-nothing;
  same_list = ap (λ (m : Many). m.list) same;
  state = λ net now s is. subst (λ m. IsStateOf m net now s) (sym same) is;
  sound = subst (AreSound before.world.w opens before.world.net) (sym same) sound;
  serials = ap (λ (m : Many). m.graph.book.made) same;
  traces = λ outs h so_far t fits. record {
    after = h;
    traced = subst (λ xs. Traced xs h (so_far ++ [])) (sym (append-nil outs)) (subst (λ y. Traced outs h y) (sym (append-nil so_far)) t);
    fits = subst (λ m. FitsHoldings m opens [] h) (sym same) fits;
  };
})

-- one waits, and is given up
pub lets_one : {old new : Logged} (kind : ChainKind) (waits : Option Chain) (c : Chain) (opens : ℕ) (before after : Site) (text : List ℕ) → waits ≡ Some c → GivesUpWaiting kind c before.opens opens after.opens text →
    AreSound before.world.w opens before.world.net after.opens → after.opens.graph.book.made ≡ before.opens.graph.book.made → Puts old new text → DropsWaiting kind waits opens before after [] old new
lets_one {old} {new} kind waits c opens before after text some gone sound made puts = subst (λ x. DropsWaiting kind x opens before after [] old new) (sym some) (record {
  events = gone.events;
  puts = subst (Puts old new) (gone.text_is ∙ ap out_texts (sym (append-nil (event_records gone.events)))) puts;
  same_list = gone.same_list;
  state = gone.state;
  sound = sound;
  serials = made;
  traces = gone.traces;
})

-- and then a result is put
pub lets_result : {old mid new : Logged} (kind : ChainKind) (waits : Option Chain) (opens : ℕ) (before after : Site) (cause : Cause) → DropsWaiting kind waits opens before after [] old mid → Puts mid new (out_texts (result cause ∷ [])) →
    DropsWaiting kind waits opens before after (result cause ∷ []) old new
lets_result {old} {mid} {new} kind waits opens before after cause l p = record {
  events = l.events;
  puts = subst (λ xs. Puts old new (out_texts (xs ++ (result cause ∷ [])))) (append-nil (event_records l.events)) (Puts-outs (event_records l.events ++ []) (result cause ∷ []) l.puts p);
  same_list = l.same_list;
  state = l.state;
  sound = l.sound;
  serials = l.serials;
  traces = l.traces;
}

-- WHAT WAS GATHERED

pub gathered_opened : {from to old new : Logged} (a : Asked) (first : List GraphObject) (shown : Option (List (List ℕ))) (script : Running) (before : Site) (after : Snapshot) → Opened a first shown script before after from to →
    IsClean from → to.is_short ≡ false → Puts old new to.bytes → Opened a first shown script before after old new
gathered_opened a first shown script before after o clean whole puts = record {
  rest = o.rest;
  puts = gathered_puts _ clean whole o.puts puts;
  opens = o.opens;
  traces = o.traces;
  sound = o.sound;
  under_way = o.under_way;
  same_script = o.same_script;
}

pub gathered_next : {from to old new : Logged} (s : Running) (k : Next) (before : Site) (after : Snapshot) → OpensNext s k before after from to → IsClean from → to.is_short ≡ false → Puts old new to.bytes →
    OpensNext s k before after old new
gathered_next s k before after (opens_it few o) clean whole puts = opens_it few (gathered_opened _ _ None s before after o clean whole puts)
gathered_next s k before after (opens_none now full used world is l) clean whole puts = opens_none now full used world is (record {
  events = l.events;
  puts = gathered_puts _ clean whole l.puts puts;
  same_list = l.same_list;
  state = l.state;
  sound = l.sound;
  serials = l.serials;
  traces = l.traces;
})
