-- What an entry of the one object of an open does, and what the outside is told.
use Rattle.std.proofs.Common.{◌≡◌, ℕ, ◌<◌, ◌^◌, Bool, true, false, not, min, List, [], ◌∷◌, ◌++◌, length, map, Option, Some, None, is_some, refl, sym, ap, ◌∙◌, subst, append_assoc, arith, if◌then◌else◌}
use Rattle.std.proofs.lemmas.Bool.{eq-eqb, false≢true}
use Rattle.nb_terms.specs.declared.acts.Acts.{Acts}
use Rattle.nb_terms.specs.declared.cause.Cause.{Cause}
use Rattle.nb_ledger.specs.declared.port.Port.{Port}
use Rattle.nb_ledger.specs.declared.port.PortState.{PortState}
use Rattle.nb_ledger.specs.declared.port.PortState.TheVariants as port
use Rattle.nb_ledger.specs.declared.event.Way.{Way}
use Rattle.nb_ledger.specs.declared.event.GraphEvent.TheVariants.{Entered, Left, Closed}
use Rattle.nb_ledger.specs.Flat.{Heard, Notice}
use Rattle.nb_ledger.specs.GraphRun.{but_at, new_ports}
use Rattle.nb_ledger.specs.Ledger.{open_count}
use Rattle.nb_effects.specs.declared.effects.Fx.{Fx}
use Rattle.nb_graph.specs.Laws.{EntersThen}
use Rattle.nb_graph.specs.Scene.{Scene, scene_of, after_noted}
use Rattle.nb_graph.specs.Trace.{NodeEntry, Said, up, time, silence, left}
use Rattle.nb_graph.specs.Deeds.{Deed, writes, calls as it_calls, Stage, Holds, Settles, rest, told_of, events_of, closes_of, few_of, runs_of, settles_by}
use Rattle.nb_graph.specs.Whole.{Objects, port_at}
use Rattle.nb_nodes.specs.declared.load.Load.{Load}
use Rattle.nb_nodes.specs.declared.obj.Obj.{Obj}
use Rattle.nb_nodes.specs.Objects.{obj_nature}
use Rattle.nb_nodes.specs.Carried.{downs_of, end_closes, AsksNone}
use Rattle.nb_nodes.specs.Conversations.{TakesWhole}
use Rattle.nb_nodes.specs.Exchanges.{Service, AskerState, not_begun, asking, finished, after_calls, AsksAndGives, GivesAtEnd, AskerTakes, takes_message, takes_time, is_ended, stays_idle, AskerLeadsTo}
use Rattle.nb_opens.specs.Entries.{entries_of}
use Rattle.nb_opens.specs.Notices.{tells, sent_from, first_close}
use Rattle.nb_opens.specs.AloneNotices.{alone_call, alone_end}
use Rattle.nb_opens.specs.Alones.{IsOpenLone, shut_slots, Talks, AsksMore, asks_on, comes_to_end, runs_out}
use Rattle.nb_opens.proofs.Bodies.{all_left}
use Rattle.nb_opens.proofs.HoldLemmas.{NotFreed}
use Rattle.nb_opens.proofs.GoingMore.{fails-told}
use Rattle.nb_opens.proofs.LoneStarts.{MeetsAt, Seen, seen_lone, lone_seen, seen_closed, LoneStarted}
use Rattle.nb_opens.proofs.LoneWalks.{Walk, past_few, past_close, past_end, as_stages, as_told, at_rest}

-- what is to run of an entry that asks for what a core's call asks for, and what stands below it
lone_runs : (x : ℕ) (m : Said) (acts : Acts) (given : List Said) (fx : Fx Obj Load) (hs : List (Stage Obj Load)) → AsksAndGives m acts given fx
    → runs_of obj_nature x m true fx ++ hs ≡ few_of obj_nature x m fx.downs ++ (few_of obj_nature x m fx.ups ++ (closes_of x (end_closes acts.over) ++ hs))
lone_runs x m acts given fx hs h =
    let ends : List (Stage Obj Load) = closes_of x (end_closes acts.over) in
    let ups : List (Stage Obj Load) = few_of obj_nature x m fx.ups in
    let downs : List (Stage Obj Load) = few_of obj_nature x m fx.downs in
    let runs : runs_of obj_nature x m true fx ≡ downs ++ (ups ++ ends) = rw (h.no_make, h.closes) refl in
    ap (λ (z : List (Stage Obj Load)). z ++ hs) runs ∙ (append_assoc downs (ups ++ ends) hs ∙ ap (λ (z : List (Stage Obj Load)). downs ++ z) (append_assoc ups ends hs))

-- the slots after a core's end, or while it goes on
abbrev pub slots_at : Option Cause → ℕ → PortState
slots_at None k = new_ports k
slots_at (Some c) k = shut_slots k

module _ {S B C : Type 0} (svc : Service S B C) (now x : ℕ) (end : Scene) (last : AskerState B C) (ds : List (Deed Obj Load)) where
  -- what a core's call asks for is done, and told in its order
  pub record Done (v : AskerState B C) (ns : List Notice) (over : Option Cause) : Type 0 where
    pub told : told_of ds ≡ ns
    pub seen : Seen end x (slots_at over)
    pub same : v ≡ last

  closes_then : (s : Scene) (v : AskerState B C) (ns : List Notice) (j : ℕ) (by : Way) (over : Option Cause) → settles_by {N = Obj} {L = Load} by x ≡ Settles x ∷ [] → Seen s x new_ports
      → Walk svc now x end last s (closes_of x (end_closes over) ++ Holds (port_at x j) by None ∷ []) v ns ds → Done v (ns ++ (alone_end x over ++ tells (Left (port_at x j)) ∷ [])) over
  closes_then s v ns j by None e h k =
      let z = at_rest svc now x end last ds s v _ (past_end svc now x end last ds s v ns j by e k) in
      record { told = z.0; seen = subst (λ y. Seen y x (slots_at None)) z.1 h; same = z.2 }
  closes_then s v ns j by (Some c) e h k =
      let s1 = after_noted (Closed (port_at x 0) c) s in
      let s2 = after_noted (Closed (port_at x 1) c) s1 in
      let hs : List (Stage Obj Load) = Holds (port_at x j) by None ∷ [] in
      let h1 = seen_closed s x 0 c new_ports h refl in
      let h2 = seen_closed s1 x 1 c (λ i. but_at 0 port.Closed new_ports i) h1 refl in
      let one = past_close svc now x end last ds s (closes_of x ((1, c) ∷ []) ++ hs) v ns 0 c (h.ports 0) k in
      let two = past_close svc now x end last ds s1 hs v (ns ++ tells (Closed (port_at x 0) c) ∷ []) 1 c (h1.ports 1) one in
      let three = past_end svc now x end last ds s2 v ((ns ++ tells (Closed (port_at x 0) c) ∷ []) ++ tells (Closed (port_at x 1) c) ∷ []) j by e two in
      let four = as_told svc now x end last ds s2 [] v _ (ns ++ (alone_end x (Some c) ++ tells (Left (port_at x j)) ∷ [])) (simp append_assoc) three in
      let z = at_rest svc now x end last ds s2 v _ four in
      record { told = z.0; seen = subst (λ y. Seen y x (slots_at (Some c))) z.1 h2; same = z.2 }

  pub call_done : (s : Scene) (v : AskerState B C) (m : Said) (acts : Acts) (given : List Said) (fx : Fx Obj Load) (j : ℕ) (by : Way) → settles_by {N = Obj} {L = Load} by x ≡ Settles x ∷ [] → Seen s x new_ports → AsksAndGives m acts given fx
      → Walk svc now x end last s (runs_of obj_nature x m true fx ++ Holds (port_at x j) by None ∷ []) v (tells (Entered (port_at x j) by) ∷ []) ds → Done v (alone_call x (port_at x j) by m.rec acts given) acts.over
  call_done s v m acts given fx j by e h asks k =
      let hs : List (Stage Obj Load) = Holds (port_at x j) by None ∷ [] in
      let ns : List Notice = tells (Entered (port_at x j) by) ∷ [] in
      let ends : List (Stage Obj Load) = closes_of x (end_closes acts.over) ++ hs in
      let ups : List (Stage Obj Load) = few_of obj_nature x m fx.ups ++ ends in
      let downs : List Notice = map (sent_from (port_at x 1)) (downs_of m.rec acts) in
      let givens : List Notice = map (sent_from (port_at x 0)) given in
      let one = as_stages svc now x end last ds s _ _ v ns (lone_runs x m acts given fx hs asks) k in
      let two = as_told svc now x end last ds s ups v _ (ns ++ downs) (ap (λ z. ns ++ map (sent_from (port_at x 1)) z) asks.downs) (past_few svc now x end last ds s ups v ns 1 m fx.downs (h.ports 1) asks.by_one one) in
      let three = as_told svc now x end last ds s ends v _ ((ns ++ downs) ++ givens) (ap (λ z. (ns ++ downs) ++ map (sent_from (port_at x 0)) z) asks.ups) (past_few svc now x end last ds s ends v (ns ++ downs) 0 m fx.ups (h.ports 0) asks.by_zero two) in
      let d = closes_then s v ((ns ++ downs) ++ givens) j by acts.over e h three in
      record {
        told = d.told ∙ (append_assoc (ns ++ downs) givens (alone_end x acts.over ++ tells (Left (port_at x j)) ∷ []) ∙ append_assoc ns downs (givens ++ (alone_end x acts.over ++ tells (Left (port_at x j)) ∷ [])));
        seen = d.seen;
        same = d.same;
      }

module _ {S B C : Type 0} (svc : Service S B C) (now x : ℕ) (end : Scene) (last : AskerState B C) (ds : List (Deed Obj Load)) where
  -- the object is entered, and its node is called
  pub record Called (s : Scene) (v : AskerState B C) (entry : Bool → Fx Obj Load → NodeEntry Obj Load) (m : Said) (j : ℕ) (by : Way) (left_over : Bool → Fx Obj Load → Option Said) : Type 0 where
    pub done : Bool
    pub fx : Fx Obj Load
    pub next : AskerState B C
    pub goes : AskerTakes svc v (entry done fx) next
    pub walk : Walk svc now x end last s (runs_of obj_nature x m done fx ++ Holds (port_at x j) by (left_over done fx) ∷ []) next (tells (Entered (port_at x j) by) ∷ []) ds

  pub called : (s : Scene) (gs : List (Stage Obj Load)) (v : AskerState B C) (entry : Bool → Fx Obj Load → NodeEntry Obj Load) (m : Said) (j : ℕ) (by : Way) (left_over : Bool → Fx Obj Load → Option Said) (k : Walk svc now x end last s gs v [] ds)
      → EntersThen obj_nature now s [] entry (port_at x j) by m left_over [] k.left end → Called s v entry m j by left_over
  called s gs v entry m j by left_over k (done, fx, (es, e, uses)) =
      let i : NodeEntry Obj Load = entry done fx in
      let own : entries_of x (writes (Entered (port_at x j) by) ∷ it_calls x i ∷ es) ≡ i ∷ entries_of x es = rw (eq-eqb x x refl) refl in
      let run : AskerLeadsTo svc v (i ∷ entries_of x es) last = subst (λ z. AskerLeadsTo svc v z last) (ap (entries_of x) e ∙ own) k.runs in
      record {
        done = done;
        fx = fx;
        next = run.0;
        goes = run.1;
        walk = record { left = es; told = k.told ∙ ap told_of e; uses = uses; runs = run.2; stays = subst (λ z. NotFreed x (events_of z)) e k.stays };
      }

-- all of the message was taken
pub whole_taken : (m : Said) (took : ℕ) → length m.bytes < 2 ^ 32 → took ≡ min (length m.bytes) 4294967295 → left took m ≡ None
whole_taken m took h e = all_left m took (omega (arith, h, e))

-- The node ran out of memory, or its core's call asked for this.
pub data Answers {S B C : Type 0} (svc : Service S B C) (b : B) (start : ℕ) (calls : List C) (m : Said) (call : Acts → C) (left_over : Bool → Fx Obj Load → Option Said) : Bool → Fx Obj Load → AskerState B C → Type 0 where
  broke : (fx : Fx Obj Load) (w : AskerState B C) → Answers svc b start calls m call left_over false fx w
  asked : (fx : Fx Obj Load) (acts : Acts) (given : List Said) → AsksAndGives m acts given fx → left_over true fx ≡ None → GivesAtEnd svc m.rec b (calls ++ call acts ∷ []) acts.over given
      → Answers svc b start calls m call left_over true fx (after_calls b start (calls ++ call acts ∷ []) acts)

pub hears : {S B C : Type 0} (svc : Service S B C) (b : B) (start : ℕ) (calls : List C) (m : Said) (now : ℕ) (done : Bool) (fx : Fx Obj Load) (w : AskerState B C) → svc.takes 1 m ≡ true → length m.bytes < 2 ^ 32
    → AskerTakes svc (asking b start calls) (up 1 m now done fx) w → Answers svc b start calls m (svc.received m now) (λ done fx. rest m done fx) done fx w
hears svc b start calls m now false fx w is small k = broke fx w
hears svc b start calls m now true fx _ is small (takes_message _ _ _ _ _ _ _ acts given _ effects takes gives) = asked fx acts given effects (whole_taken m fx.took small takes) gives
hears svc b start calls m now true fx _ is small (is_ended _ _ fatal passes) = absurd (let z = fatal in cc)
hears svc b start calls m now true fx _ is small (stays_idle _ _ idle nothing) = absurd (let z = sym (ap not is) ∙ idle in cc)

pub hears_time : {S B C : Type 0} (svc : Service S B C) (b : B) (start : ℕ) (calls : List C) (now : ℕ) (done : Bool) (fx : Fx Obj Load) (w : AskerState B C)
    → AskerTakes svc (asking b start calls) (time now done fx) w → Answers svc b start calls silence (svc.timed now) (λ done fx. None) done fx w
hears_time svc b start calls now false fx w k = broke fx w
hears_time svc b start calls now true fx _ (takes_time _ _ _ _ _ acts given effects gives) = asked fx acts given effects refl gives
hears_time svc b start calls now true fx _ (is_ended _ _ fatal passes) = absurd (let z = fatal in cc)
hears_time svc b start calls now true fx _ (stays_idle _ _ idle nothing) = absurd (let z = idle in cc)

-- a message that the core isn't given changes nothing
pub ignores : {S B C : Type 0} (svc : Service S B C) (b : B) (start : ℕ) (calls : List C) (m : Said) (now : ℕ) (fx : Fx Obj Load) (w : AskerState B C) → svc.takes 1 m ≡ false
    → AskerTakes svc (asking b start calls) (up 1 m now true fx) w → AsksNone fx × TakesWhole m fx × (w ≡ asking b start calls)
ignores svc b start calls m now fx _ is (takes_message _ _ _ _ _ _ _ acts given takes effects whole gives) = absurd (false≢true (sym is ∙ takes))
ignores svc b start calls m now fx _ is (is_ended _ _ fatal passes) = absurd (let z = fatal in cc)
ignores svc b start calls m now fx _ is (stays_idle _ _ idle nothing) = (nothing.0, nothing.1, refl)

-- the exchange after a call meets the promises, whether it ended or not
meets_either : {S B C : Type 0} (svc : Service S B C) (o : Bool) (b : B) (start : ℕ) (calls : List C) → MeetsAt svc (if o then finished b start calls else asking b start calls) → svc.meets b start calls
meets_either svc true b start calls h = h
meets_either svc false b start calls h = h

module _ {S B C : Type 0} (svc : Service S B C) (kind : ℕ) (g h : Objects Obj) (m n : Heard) (now x : ℕ) (asks : List (Stage Obj Load)) (v : AskerState B C) (st : LoneStarted svc kind g h m n now x asks v) where
  -- an exchange under way after the call
  pub still_talks : (b : B) (start : ℕ) (calls : List C) → Seen (scene_of h.book) x new_ports → asking b start calls ≡ st.last → Talks svc kind h x b start calls
  still_talks b start calls seen same = record {
    lone = lone_seen h x new_ports seen st.held;
    trace = st.top;
    stands = st.stands;
    run = subst (λ (w : AskerState B C). AskerLeadsTo svc not_begun st.top w) (sym same) st.run;
    meets = subst (MeetsAt svc) (sym same) st.meets;
    of_kind = st.of_kind;
  }

  -- from what its core's call asked for
  asks_more : (b : B) (start : ℕ) (calls : List C) (p : Port) (by : Way) (rec : ℕ) (call : Acts → C) (acts : Acts) (over : Option Cause) (given : List Said) → acts.over ≡ over → GivesAtEnd svc rec b (calls ++ call acts ∷ []) over given
      → Seen (scene_of h.book) x (slots_at over) → after_calls b start (calls ++ call acts ∷ []) acts ≡ st.last → told_of st.deeds ≡ alone_call x p by rec acts given
      → AsksMore svc kind h x b start calls p by rec call (told_of st.deeds)
  asks_more b start calls p by rec call acts None given e gives seen same told =
      let all : List C = calls ++ call acts ∷ [] in
      let met : svc.meets b start all = meets_either svc (is_some acts.over) b start all (subst (MeetsAt svc) (sym same) st.meets) in
      let on : asking b start all ≡ st.last = subst (λ (o : Option Cause). (if is_some o then finished b start all else asking b start all) ≡ st.last) e same in
      asks_on acts met e (told ∙ ap (λ z. alone_call x p by rec acts z) gives) (still_talks b start all seen on)
  asks_more b start calls p by rec call acts (Some c) given e gives seen same told =
      let all : List C = calls ++ call acts ∷ [] in
      let met : svc.meets b start all = meets_either svc (is_some acts.over) b start all (subst (MeetsAt svc) (sym same) st.meets) in
      comes_to_end acts c given met e gives told (lone_seen h x shut_slots seen st.held)

  pub answers_so : (b : B) (start : ℕ) (calls : List C) (said : Said) (j : ℕ) (by : Way) (call : Acts → C) (left_over : Bool → Fx Obj Load → Option Said) (done : Bool) (fx : Fx Obj Load) (w : AskerState B C)
      → settles_by {N = Obj} {L = Load} by x ≡ Settles x ∷ [] → IsOpenLone g x → Answers svc b start calls said call left_over done fx w
      → Walk svc now x (scene_of h.book) st.last (scene_of g.book) (runs_of obj_nature x said done fx ++ Holds (port_at x j) by (left_over done fx) ∷ []) w (tells (Entered (port_at x j) by) ∷ []) st.deeds
      → AsksMore svc kind h x b start calls (port_at x j) by said.rec call (told_of st.deeds)
  answers_so b start calls said j by call left_over _ _ _ e lone (broke fx w) k =
      runs_out (ap first_close k.told ∙ fails-told now (scene_of g.book) (scene_of h.book) x said fx (Holds (port_at x j) by (left_over false fx) ∷ []) k.left (ap open_count (lone.ports 0)) k.uses)
  answers_so b start calls said j by call left_over _ _ _ e lone (asked fx acts given effects none gives) k =
      let w : AskerState B C = after_calls b start (calls ++ call acts ∷ []) acts in
      let runs : List (Stage Obj Load) = runs_of obj_nature x said true fx in
      let k2 = as_stages svc now x (scene_of h.book) st.last st.deeds (scene_of g.book) _ (runs ++ Holds (port_at x j) by None ∷ []) w (tells (Entered (port_at x j) by) ∷ []) (ap (λ z. runs ++ Holds (port_at x j) by z ∷ []) none) k in
      let d = call_done svc now x (scene_of h.book) st.last st.deeds (scene_of g.book) w said acts given fx j by e (seen_lone g x new_ports lone) effects k2 in
      asks_more b start calls (port_at x j) by said.rec call acts acts.over given refl gives d.seen d.same d.told
