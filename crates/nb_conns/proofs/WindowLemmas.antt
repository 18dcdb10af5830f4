-- Which windows a connection's object has lent, over its trace.
use Rattle.std.proofs.Common.{◌≡◌, ℕ, ◌&&◌, true, not, List, [], ◌∷◌, ◌++◌, length, nat_lt, Option, Some, None, refl, ap, sym, ◌∙◌, subst, append-nil, arith}
use Rattle.std.proofs.lemmas.Option.{none-some}
use Rattle.std.proofs.lemmas.List.Concat.{flat_map-append}
use Rattle.nb_terms.specs.declared.cause.Cause.{Cause}
use Rattle.nb_effects.specs.declared.effects.Emit.{Emit}
use Rattle.nb_effects.specs.declared.effects.Fx.{Fx}
use Rattle.nb_graph.specs.Trace.{NodeEntry, up, down, closed, time, regain, in_list, carried, loads, lent, Owes, Owes1, IsSettled, LacksLoad}
use Rattle.nb_tcp.specs.ConnHistory.{ConnEntry}
use Rattle.nb_conns.specs.declared.conn_ask.ConnAsk.{ConnAsk}
use Rattle.nb_conns.specs.declared.conn_load.Lent.{Lent}
use Rattle.nb_conns.specs.declared.tcp.Tcp.{Tcp}
use Rattle.nb_conns.specs.ConnLoads.{Carrier, window_of_conn, windows_in}
use Rattle.nb_conns.specs.ConnEffects.{SaysNothing}
use Rattle.nb_conns.specs.Dialogues.{Dialogue, unopened, talking, closed_off, given_up, is_talking, is_home, at_close, talked_on, is_quiet, is_window, AsksIdly, Converses, is_asked, takes_segment, hands_on, takes_none, takes_text, takes_tick, has_back, is_closed, ends_short, rests_still, ConversesTo, TcpStands}

windows-append : {L : Type 0} (k : Carrier L) (v w : List L) → windows_in k (v ++ w) ≡ windows_in k v ++ windows_in k w
windows-append k v w = flat_map-append (λ load. window_of_conn (k.as_conn load)) v w

-- one more of them
windows-beside : {L : Type 0} (k : Carrier L) (us vs : List L) (load : L) → windows_in k (us ++ load ∷ vs) ≡ windows_in k us ++ (window_of_conn (k.as_conn load) ++ windows_in k vs)
windows-beside k us vs load = windows-append k us (load ∷ vs)

one_alone : {A : Type 0} (us vs : List A) (x y : A) → us ++ x ∷ vs ≡ y ∷ [] → (us ≡ []) × (vs ≡ []) × (x ≡ y)
one_alone [] [] x y e = (refl, refl, (let z = e in cc))
one_alone [] (v ∷ vs) x y e = absurd (let z = e in cc)
one_alone (u ∷ []) vs x y e = absurd (let z = e in cc)
one_alone (u ∷ (t ∷ us)) vs x y e = absurd (let z = e in cc)

none_beside : {A : Type 0} (us ms vs : List A) → us ++ (ms ++ vs) ≡ [] → us ++ vs ≡ []
none_beside [] [] vs e = e
none_beside [] (m ∷ ms) vs e = absurd (let z = e in cc)
none_beside (u ∷ us) ms vs e = absurd (let z = e in cc)

-- an entry that sends nothing lends nothing
none_carried : {L : Type 0} (o : Option (Emit L)) → o ≡ None → carried o ≡ []
none_carried None e = refl
none_carried (Some x) e = absurd (none-some x (sym e))

none_lent : {N L : Type 0} (fx : Fx N L) → SaysNothing fx → lent fx ≡ []
none_lent fx s =
    ap (λ z. (z ++ carried fx.downs.second) ++ loads fx.ups) (none_carried fx.downs.first s.no_down)
    ∙ ap (λ z. z ++ loads fx.ups) (none_carried fx.downs.second s.no_downs)
    ∙ ap (λ z. z ++ carried fx.ups.second) (none_carried fx.ups.first s.no_up)
    ∙ none_carried fx.ups.second s.no_ups

-- what is lent, so far as it goes on
abbrev pub WindowsOut : {L : Type 0} → Carrier L → Dialogue → List L → Type 0
WindowsOut k unopened w = windows_in k w ≡ []
WindowsOut k (talking a start calls out) w = windows_in k w ≡ in_list out
WindowsOut k (closed_off a start calls) w = Unit {0}
WindowsOut k given_up w = Unit {0}

more_out : {L : Type 0} (k : Carrier L) (w v more : List L) (xs ys : List Lent) → windows_in k w ≡ xs → v ≡ w ++ more → windows_in k more ≡ ys → windows_in k v ≡ xs ++ ys
more_out k w v more xs ys was e lends = ap (λ z. windows_in k z) e ∙ windows-append k w more ∙ ap (λ z. z ++ windows_in k more) was ∙ ap (λ z. xs ++ z) lends

same_out : {N L : Type 0} (k : Carrier L) (d : Dialogue) (fx : Fx N L) (w v : List L) → SaysNothing fx → v ≡ w ++ lent fx → WindowsOut k d w → WindowsOut k d v
same_out k d fx w v s e was = subst (λ z. WindowsOut k d z) (sym (e ∙ ap (λ z. w ++ z) (none_lent fx s) ∙ append-nil w)) was

talked_out : {L : Type 0} (k : Carrier L) (a : ConnAsk) (start : ℕ) (calls : List ConnEntry) (out : Option Lent) (over : Option Cause) (v : List L) → windows_in k v ≡ in_list out → WindowsOut k (talked_on a start calls out over) v
talked_out k a start calls out None v e = e
talked_out k a start calls out (Some c) v e = tt

closed_out : {L : Type 0} (k : Carrier L) (d : Dialogue) (v : List L) → WindowsOut k (at_close d) v
closed_out k unopened v = tt
closed_out k (talking a start calls out) v = tt
closed_out k (closed_off a start calls) v = tt
closed_out k given_up v = tt

no_window : (ws : List Lent) → not (nat_lt 0 (length ws)) ≡ true → ws ≡ []
no_window [] e = refl
no_window (w ∷ ws) e = absurd (let z = e in grind arith)

-- a load that isn't a window comes back
other_back : {L : Type 0} (k : Carrier L) (d : Dialogue) (load : L) (us vs w v : List L) → not (is_talking d && is_window k load) ≡ true → w ≡ us ++ load ∷ vs → v ≡ us ++ vs → WindowsOut k d w → WindowsOut k d v
other_back k unopened load us vs w v quiet e f was =
    ap (λ z. windows_in k z) f ∙ windows-append k us vs ∙ none_beside (windows_in k us) (window_of_conn (k.as_conn load)) (windows_in k vs) (sym (ap (λ z. windows_in k z) e ∙ windows-beside k us vs load) ∙ was)
other_back k (talking a start calls out) load us vs w v quiet e f was =
    ap (λ z. windows_in k z) f ∙ windows-append k us vs
    ∙ ap (λ z. windows_in k us ++ (z ++ windows_in k vs)) (sym (no_window (window_of_conn (k.as_conn load)) quiet))
    ∙ sym (ap (λ z. windows_in k z) e ∙ windows-beside k us vs load) ∙ was
other_back k (closed_off a start calls) load us vs w v quiet e f was = tt
other_back k given_up load us vs w v quiet e f was = tt

still_out : {N L : Type 0} (k : Carrier L) (d : Dialogue) (e : NodeEntry N L) (w v : List L) → is_quiet k d e ≡ true → AsksIdly e → Owes1 w e v → WindowsOut k d w → WindowsOut k d v
still_out k d (up slot m now done fx) w v quiet asks owes was = same_out k d fx w v asks.0 owes was
still_out k d (down m now done fx) w v quiet asks owes was = same_out k d fx w v asks.0 owes was
still_out k d (closed slot cause now fx) w v quiet asks owes was = same_out k d fx w v asks.0 owes was
still_out k d (time now done fx) w v quiet asks owes was = same_out k d fx w v asks.0 owes was
still_out k d (regain load) w v quiet asks owes was = other_back k d load owes.0 owes.1 w v quiet owes.2 owes.3 was

-- and after each entry
pub out_step : {N L : Type 0} (k : Carrier L) (d f : Dialogue) (e : NodeEntry N L) (w v : List L) → Converses k d e f → WindowsOut k d w → Owes1 w e v → WindowsOut k f v
out_step k _ _ _ w v (is_asked a m now fx tag asks effects) was owes = more_out k w v (lent fx) [] [] was owes effects.windows
out_step k _ _ _ w v (takes_segment a start calls slot m now fx s acts out from is so effects all) was owes =
    talked_out k a start _ out acts.over v (more_out k w v (lent fx) [] (in_list out) was owes effects.windows)
out_step k _ _ _ w v (hands_on a start calls slot m now fx s acts from is alive ready lasts effects all) was owes = more_out k w v (lent fx) [] [] was owes effects.windows
out_step k _ _ _ w v (takes_none a start calls out slot m now fx none says shut all) was owes = same_out k (talking a start calls out) fx w v says owes was
out_step k _ _ _ w v (takes_text a start calls out m now fx acts tag effects) was owes =
    talked_out k a start _ out acts.over v (more_out k w v (lent fx) (in_list out) [] was owes effects.windows ∙ append-nil (in_list out))
out_step k _ _ _ w v (takes_tick a start calls out now fx acts effects) was owes =
    talked_out k a start _ out acts.over v (more_out k w v (lent fx) (in_list out) [] was owes effects.windows ∙ append-nil (in_list out))
out_step k _ _ _ w v (has_back a start calls l load is) was owes =
    let alone = one_alone (windows_in k owes.0) (windows_in k owes.1) l l (ap (λ z. windows_in k owes.0 ++ (z ++ windows_in k owes.1)) (sym is) ∙ sym (ap (λ z. windows_in k z) owes.2 ∙ windows-beside k owes.0 owes.1 load) ∙ was) in
    ap (λ z. windows_in k z) owes.3 ∙ windows-append k owes.0 owes.1 ∙ ap (λ z. z ++ windows_in k owes.1) alone.0 ∙ alone.1
out_step k _ _ _ w v (is_closed a start calls out cause now fx acts effects) was owes = tt
out_step k d _ e w v (ends_short _ _ cut hands) was owes = closed_out k d v
out_step k d _ e w v (rests_still _ _ quiet asks) was owes = still_out k d e w v quiet asks owes was

pub out_all : {N L : Type 0} (k : Carrier L) (d f : Dialogue) (t : List (NodeEntry N L)) (w v : List L) → ConversesTo k d t f → WindowsOut k d w → Owes w t v → WindowsOut k f v
out_all k d f [] w v run was owes = subst (λ z. WindowsOut k z v) run (subst (λ z. WindowsOut k d z) owes was)
out_all k d f (e ∷ t) w v run was owes = out_all k run.0 f t owes.0 v run.2 (out_step k d run.0 e w owes.0 run.1 was owes.1) owes.2

-- where all came back, nothing of a connection is lent
home_if : {L : Type 0} (k : Carrier L) (d : Dialogue) → WindowsOut k d [] → is_home d ≡ true
home_if k unopened e = refl
home_if k (talking a start calls None) e = refl
home_if k (talking a start calls (Some l)) e = absurd (let z = e in cc)
home_if k (closed_off a start calls) e = refl
home_if k given_up e = refl

pub home_settled : {N L : Type 0} (k : Carrier L) (p : Tcp) (t : List (NodeEntry N L)) (s : TcpStands k p t) → IsSettled t → is_home s.dialogue ≡ true
home_settled k p t s settled = home_if k s.dialogue (out_all k unopened s.dialogue t [] [] s.run refl settled)

-- a window that comes back is the one that is lent
the_one : {L : Type 0} (k : Carrier L) (out : Option Lent) (us vs : List L) (load : L) (l : Lent) → window_of_conn (k.as_conn load) ≡ l ∷ [] → windows_in k (us ++ load ∷ vs) ≡ in_list out → out ≡ Some l
the_one k None us vs load l is e = absurd (nothing_there (windows_in k us) (sym (windows-beside k us vs load ∙ ap (λ z. windows_in k us ++ (z ++ windows_in k vs)) is) ∙ e))
  where
    nothing_there : (xs : List Lent) → xs ++ (l ∷ windows_in k vs) ≡ [] → ⊥
    nothing_there [] h = let z = h in cc
    nothing_there (x ∷ xs) h = let z = h in cc
the_one k (Some m) us vs load l is e = ap (λ z. Some z) (sym (one_alone (windows_in k us) (windows_in k vs) l m (sym (windows-beside k us vs load ∙ ap (λ z. windows_in k us ++ (z ++ windows_in k vs)) is) ∙ e)).2)

pub lent_one : {N L : Type 0} (k : Carrier L) (a : ConnAsk) (start : ℕ) (calls : List ConnEntry) (out : Option Lent) (t : List (NodeEntry N L)) (load : L) (l : Lent)
    → ConversesTo k unopened t (talking a start calls out) → LacksLoad t load → window_of_conn (k.as_conn load) ≡ l ∷ [] → out ≡ Some l
lent_one k a start calls out t load l run lacks is = the_one k out lacks.0 lacks.1 load l is (out_all k unopened (talking a start calls out) t [] (lacks.0 ++ load ∷ lacks.1) run refl lacks.2)
