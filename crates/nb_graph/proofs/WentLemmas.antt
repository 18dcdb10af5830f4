-- Calls, one after another.
use Rattle.nb_ledger.specs.Flat.{Heard, Given}
use Rattle.nb_ledger.proofs.RunLemmas.{Given-append}
use Rattle.nb_ledger.specs.Flat.{Notice}
use Rattle.std.proofs.Common.{◌≡◌, ℕ, List, [], ◌∷◌, ◌++◌, Option, refl, ap, sym, ◌∙◌, subst, append_assoc, append-nil}
use Rattle.nb_ledger.specs.declared.port.Port.{Port}
use Rattle.nb_effects.specs.Trace.{Nature, NodeEntry}
use Rattle.nb_effects.specs.Deeds.{Deed, Stage, events_of, told_of, trace_after}
use Rattle.nb_effects.specs.Scene.{Scene, scene_of}
use Rattle.nb_effects.proofs.AgesLemmas.{Ages-trans}
use Rattle.nb_effects.specs.Accounts.{Account, account, rests}
use Rattle.nb_effects.specs.Whole.{Objects, node_at}
use Rattle.nb_effects.specs.Hosts.{Hosts, Suited}
use Rattle.nb_effects.proofs.HostLemmas.{hosts-append, suited-append}
use Rattle.nb_effects.specs.Lived.{ObjectStands, Lived}
use Rattle.nb_effects.specs.Went.{GraphCall, Each, Midways, Went, all_of, accounts}
use Rattle.nb_graph.proofs.LivesLemmas.{told-append, events-append, trace-append}
use Rattle.nb_effects.proofs.RunsLemmas.{IsRun-trans}

all-append : {N L : Type 0} (ds es : List (List (Deed N L))) → all_of (ds ++ es) ≡ all_of ds ++ all_of es
all-append [] es = refl
all-append (d ∷ ds) es = ap (λ z. d ++ z) (all-append ds es) ∙ sym (append_assoc d (all_of ds) (all_of es))

accounts-append : {N L : Type 0} (known : Nature N L) (p : Port) (a : Account) (ds es : List (List (Deed N L))) → accounts known p a (ds ++ es) ≡ accounts known p (accounts known p a ds) es
accounts-append known p a [] es = refl
accounts-append known p a (d ∷ ds) es = accounts-append known p (account known p (rests a) d) ds es

midways-append : {N L : Type 0} (known : Nature N L) (p q : Port) (a b : Account) (ds es : List (List (Deed N L))) → Midways known p q a b ds → Midways known p q (accounts known p a ds) (accounts known q b ds) es → Midways known p q a b (ds ++ es)
midways-append known p q a b [] es m n = n
midways-append known p q a b (d ∷ ds) es m n = (m.0, midways-append known p q (account known p (rests a) d) (account known q (rests b) d) ds es m.1 n)

each-append : {N L : Type 0} (known : Nature N L) (s t u : Scene) (cs bs : List (GraphCall N L)) (ds es : List (List (Deed N L))) → Each known s cs ds t → Each known t bs es u → Each known s (cs ++ bs) (ds ++ es) u
each-append known s t u [] bs [] es p q = subst (λ z. Each known z bs es u) (sym p) q
each-append known s t u [] bs (d ∷ ds) es p q = absurd p
each-append known s t u (c ∷ cs) bs [] es p q = absurd p
each-append known s t u (c ∷ cs) bs (d ∷ ds) es p q = (p.0, p.1, each-append known p.0 t u cs bs ds es p.2 q)

-- a call's
pub Went-one : {N L : Type 0} {stands : N → List (NodeEntry N L) → Type 0} {known : Nature N L} {now : ℕ} {asked : List (Stage N L)} {old new : Objects N} {before after : Heard} → Lived stands known now asked old new before after → Went stands known (record { now = now; asks = asked } ∷ []) old new before after
Went-one {stands = stands} {known = known} {old = old} {new = new} {before = before} {after = after} k = record {
  added = k.added;
  runs = k.runs;
  deeds = k.deeds ∷ [];
  events = ap events_of (append-nil k.deeds) ∙ k.events;
  tells = subst (λ z. Given before after (told_of z)) (sym (append-nil k.deeds)) k.tells;
  ages = k.ages;
  each = (scene_of new.book, k.follows, refl);
  keeps = λ x t h. subst (λ z. ObjectStands stands new x (trace_after x t z)) (sym (append-nil k.deeds)) (k.keeps x t h);
  hosts = subst (λ z. Hosts known stands (node_at old) z (node_at new)) (sym (append-nil k.deeds)) k.hosts;
  suits = λ x t h. subst (Suited x t) (sym (append-nil k.deeds)) (k.suits x t h);
  midway = λ p q a b bal. (k.midway p q a b bal, tt);
  balances = k.balances;
}

-- one call after the other
pub Went-then : {N L : Type 0} {stands : N → List (NodeEntry N L) → Type 0} {known : Nature N L} {cs bs : List (GraphCall N L)} {a b c : Objects N} {m n o : Heard} → Went stands known cs a b m n → Went stands known bs b c n o → Went stands known (cs ++ bs) a c m o
unfolding IsRun-trans
Went-then {stands = stands} {known = known} {cs = cs} {bs = bs} {a = a} {b = b} {c = c} {m = m} {n = n} {o = o} k l = record {
  added = k.added ++ l.added;
  runs = (IsRun-trans a.book b.book c.book m n o (k.added, k.runs) (l.added, l.runs)).1;
  deeds = k.deeds ++ l.deeds;
  events = ap events_of (all-append k.deeds l.deeds) ∙ events-append (all_of k.deeds) (all_of l.deeds) ∙ ap (λ z. z ++ events_of (all_of l.deeds)) k.events ∙ ap (λ z. k.added ++ z) l.events;
  tells = subst (λ z. Given m o (told_of z)) (sym (all-append k.deeds l.deeds)) (subst (Given m o) (sym (told-append (all_of k.deeds) (all_of l.deeds))) (Given-append m n o _ _ k.tells l.tells));
  ages = Ages-trans k.ages l.ages;
  each = each-append known (scene_of a.book) (scene_of b.book) (scene_of c.book) cs bs k.deeds l.deeds k.each l.each;
  keeps = λ x t h. subst (λ z. ObjectStands stands c x z) (sym (trace-append x t (all_of k.deeds) (all_of l.deeds)) ∙ ap (trace_after x t) (sym (all-append k.deeds l.deeds))) (l.keeps x _ (k.keeps x t h));
  hosts = subst (λ z. Hosts known stands (node_at a) z (node_at c)) (sym (all-append k.deeds l.deeds)) (hosts-append known stands (node_at a) (node_at b) (node_at c) (all_of k.deeds) (all_of l.deeds) k.hosts l.hosts);
  suits = λ x t h. subst (Suited x t) (sym (all-append k.deeds l.deeds)) (suited-append x t (all_of k.deeds) (all_of l.deeds) (k.suits x t h) (l.suits x (trace_after x t (all_of k.deeds)) (k.keeps x t h)));
  midway = λ p q i j h. midways-append known p q i j k.deeds l.deeds (k.midway p q i j h) (l.midway p q _ _ (k.balances p q i j h));
  balances = λ p q i j h. rw (accounts-append known p i k.deeds l.deeds, accounts-append known q j k.deeds l.deeds) (l.balances p q _ _ (k.balances p q i j h));
}
