-- What came to an open by a history that goes on, and records of which none is the graph's.
use Rattle.std.proofs.Common.{◌≡◌, ℕ, ◌≤◌, Bool, true, false, not, cond, List, [], ◌∷◌, ◌++◌, length, refl, sym, ◌∙◌, ap, append_assoc, append-nil, arith}
use Rattle.std.specs.List.{AllByRecursion}
use Rattle.nb_defs.specs.Records.{Out, step}
use Rattle.nb_traced.specs.Plain.{is_graph, without_graph}
use Rattle.nb_laws.specs.Events.{Event, starts, hears, waits, stops, puts, written_by}
use Rattle.nb_laws.proofs.Histories.{gathered_one}
use Rattle.nb_laws.proofs.Tellings.{told}
use Rattle.nb_openlaws.proofs.UsedEvents.{IsUsed}
use Rattle.nb_boot.specs.Entries.{event_number, arrival_at, arrivals}

-- ARRIVALS

pub arrivals_more : (k : ℕ) (es : List Event) (e : Event) → arrivals k (es ++ e ∷ []) ≡ arrivals k es ++ arrival_at k es e
unfolding arrivals
arrivals_more k es e = gathered_one (arrival_at k) es e

pub arrivals_told : (k : ℕ) (es : List Event) (outs : List Out) → arrivals k (es ++ told outs) ≡ arrivals k es
arrivals_told k es [] = ap (arrivals k) (append-nil es)
arrivals_told k es (o ∷ outs) =
    ap (arrivals k) (sym (append_assoc es (puts o ∷ []) (told outs))) ∙ arrivals_told k (es ++ puts o ∷ []) outs ∙ arrivals_more k es (puts o) ∙ append-nil (arrivals k es)

pub numbered : (e : Event) (number : ℕ) → IsUsed e → written_by e ≡ step number → event_number e ≡ number
numbered (puts o) number used is = absurd used
numbered (starts n s) number used is = cc
numbered (hears n bytes m) number used is = cc
numbered (waits n ms) number used is = cc
numbered (stops n) number used is = cc

-- NO RECORD OF THE GRAPH

abbrev pub HaveNoGraph : List Out → Type 0
HaveNoGraph outs = AllByRecursion (λ o. is_graph o ≡ false) outs

plain_short : (outs : List Out) → length (without_graph outs) ≤ length outs
plain_short [] = omega arith
plain_short (o ∷ outs) = shorter (is_graph o) o (without_graph outs) (plain_short outs)
  where
    shorter : (b : Bool) (o : Out) (xs : List Out) → length xs ≤ length outs → length (cond (not b) (o ∷ xs) xs) ≤ length (o ∷ outs)
    shorter true o xs less = omega (arith, less)
    shorter false o xs less = omega (arith, less)

plain_rest : (o : Out) (outs : List Out) (b : Bool) → is_graph o ≡ b → cond (not b) (o ∷ without_graph outs) (without_graph outs) ≡ o ∷ outs → (without_graph outs ≡ outs → HaveNoGraph outs) → HaveNoGraph (o ∷ outs)
plain_rest o outs true is all next = absurd (omega (arith, plain_short outs, ap length all))
plain_rest o outs false is all next = (is, next (cc))

pub no_graph_in : (outs : List Out) → without_graph outs ≡ outs → HaveNoGraph outs
no_graph_in [] all = tt
no_graph_in (o ∷ outs) all = plain_rest o outs (is_graph o) refl all (λ rest. no_graph_in outs rest)
