-- What the records of a call say, one after another.
use Rattle.std.proofs.Common.{◌≡◌, ℕ, Bool, true, false, List, [], ◌∷◌, ◌++◌, refl, sym, ◌∙◌, ap, subst}
use Rattle.std.specs.List.{AllByRecursion}
use Rattle.std.proofs.lemmas.Bool.{false≢true}
use Rattle.nb_defs.specs.Records.{Out, graph}
use Rattle.nb_ledger.specs.Flat.{flat}
use Rattle.nb_ledger.specs.declared.event.GraphEvent.{GraphEvent}
use Rattle.nb_traced.specs.Pieces.{IsOfOpen, StandOnEntries, event_records, is_entry_of, none_more, happens_then, puts_then}
use Rattle.nb_traced.specs.Runs.{events_in}
use Rattle.nb_traced.proofs.EventLemmas.{Spells, put_none}

-- so is each of them, if each event and what the open puts is
pub each_on_entries : (P : Out → Type 0) (k x : ℕ) → ((e : GraphEvent) → P (graph (flat e))) → ((o : Out) → IsOfOpen k o → P o) → (entered : Bool) (outs : List Out) (es : List GraphEvent) →
    StandOnEntries k x entered outs es → AllByRecursion P outs
each_on_entries P k x event put entered _ _ (none_more _) = tt
each_on_entries P k x event put entered _ _ (happens_then _ e outs es h) = (event e, each_on_entries P k x event put (is_entry_of x e) outs es h)
each_on_entries P k x event put entered _ _ (puts_then _ o outs es is own h) = (put o own, each_on_entries P k x event put true outs es h)

pub spells_on_entries : (k x : ℕ) (entered : Bool) (outs : List Out) (es : List GraphEvent) → StandOnEntries k x entered outs es → Spells es outs
spells_on_entries k x entered _ _ (none_more _) = record { are = refl }
spells_on_entries k x entered _ _ (happens_then _ e outs es h) = record { are = ap (λ z. flat e ∷ z) (spells_on_entries k x (is_entry_of x e) outs es h).are }
spells_on_entries k x entered _ _ (puts_then _ o outs es is own h) =
    record { are = (spells_on_entries k x true outs es h).are ∙ ap (λ z. z ++ events_in outs) (sym (put_none k o own)) }

-- events alone
pub events_on_entries : (k x : ℕ) (entered : Bool) (es : List GraphEvent) → StandOnEntries k x entered (event_records es) es
events_on_entries k x entered [] = none_more entered
events_on_entries k x entered (e ∷ es) = happens_then entered e (event_records es) es (events_on_entries k x (is_entry_of x e) es)

-- the first record is that of the first event
pub record BeginsWith (k x : ℕ) (e : GraphEvent) (es : List GraphEvent) (outs : List Out) : Type 0 where
  pub behind : List Out
  pub first : outs ≡ graph (flat e) ∷ behind
  pub stand : StandOnEntries k x (is_entry_of x e) behind es

pub begins_with : (k x : ℕ) (outs : List Out) (es : List GraphEvent) (e : GraphEvent) (rest : List GraphEvent) → StandOnEntries k x false outs es → es ≡ e ∷ rest → BeginsWith k x e rest outs
begins_with k x _ _ e rest (none_more _) is = absurd (cc)
begins_with k x _ _ e rest (happens_then _ f outs es h) is =
    let same : f ≡ e = cc in
    let others : es ≡ rest = cc in
    record {
      behind = outs;
      first = ap (λ z. graph (flat z) ∷ outs) same;
      stand = subst (λ z. StandOnEntries k x (is_entry_of x z) outs rest) same (subst (λ z. StandOnEntries k x (is_entry_of x f) outs z) others h);
    }
begins_with k x _ _ e rest (puts_then _ o outs es none own h) is = absurd (false≢true none)
