-- One more open begins beside those that live.
use Rattle.std.proofs.Common.{◌≡◌, ◌⊎◌, inl, inr, ℕ, ◌+◌, ◌≤◌, List, [], ◌∷◌, ◌++◌, map, Option, Some, None, refl, sym, ◌∙◌, ap, subst, append_assoc, append-nil, arith}
use Rattle.std.specs.List.{AllByRecursion}
use Rattle.std.proofs.lemmas.List.{map-append}
use Rattle.nb_terms.specs.declared.cause.Cause.{Cause}
use Rattle.nb_defs.specs.Records.{Out, opened, ended}
use Rattle.nb_graph.specs.Whole.{Objects}
use Rattle.nb_ledger.specs.GraphRun.{GraphState, GraphRunOf}
use Rattle.nb_ledger.specs.Ledger.{run_state}
use Rattle.nb_nodes.specs.declared.obj.Obj.{Obj}
use Rattle.nb_traced.specs.Plain.{without_graph}
use Rattle.nb_stack.specs.Client.{Client}
use Rattle.nb_machine.specs.Lives.{Live, kind_number, open_record}
use Rattle.nb_machine.specs.States.{State, bare}
use Rattle.nb_chains.specs.declared.chain.Chain.{Chain}
use Rattle.nb_teller.specs.Spelling.{Spelling}
use Rattle.nb_traced.specs.Holdings.{Holdings, GraphObject}
use Rattle.nb_traced.specs.Outputs.{Arrived, MayWaitOn, Traced, opens, calls, ends}
use Rattle.nb_traced.specs.Pieces.{event_records, pieces_made}
use Rattle.nb_network.specs.declared.living.Living.{Living}
use Rattle.nb_open.specs.declared.opening.Opening.{Opening}
use Rattle.nb_open.specs.declared.objects.OpenObjects.{OpenObjects}
use Rattle.nb_open.specs.declared.objects.OpenObjects.TheVariants as objects
use Rattle.nb_open.specs.Objects.{objects_ids}
use Rattle.nb_open.specs.Begins.{IsLatest, MakesObjects, SetsOutOr, waiting_pieces}
use Rattle.nb_open.specs.Open.{objects_pieces}
use Rattle.nb_open.specs.Opening.{chain_kind, kind_by, live_by, speaker_for}
use Rattle.nb_network.specs.Many.{AreOpensOf, FitsHoldings, IsApartFrom, IsLivingOf, IsStateOf, kin_of, bare_open}
use Rattle.nb_network.specs.Openings.{BegunBy, EntersBy, FirstBy, begun_records}
use Rattle.nb_network.specs.Takes.{TracesOn}
use Rattle.nb_network.proofs.Lists.{opens_append, opens_move}
use Rattle.nb_network.specs.Drives.{drive_by}
use Rattle.nb_network.proofs.DriveBegins.{begins_as}

-- THE OUTPUT

pub number_is : (a : Opening) (number : ℕ) (o : Living) → o.speaker ≡ speaker_for a number → o.speaker.number ≡ number
number_is a number o is = ap (λ s. s.number) is

-- each open has objects
some_pieces : (os : OpenObjects) → objects_pieces os ≡ [] → ⊥
some_pieces (objects.Chain kind chain) e = cc
some_pieces (objects.Web port own chain) e = cc
some_pieces (objects.Drive port own chain) e = cc

module _ (left : List GraphObject) (waits : Option Chain) (a : Opening) (number now : ℕ) (link : Client) (o : Living) (is : o.speaker ≡ speaker_for a number) (g : Objects Obj) (list : List Living) (made : Spelling) (mid : GraphState) (x : MakesObjects left (chain_kind a) (kind_number (kind_by a)) waits (bare_open o) g made mid) (latest : IsLatest waits g) (lone : (left ≡ []) ⊎ (waits ≡ None)) where
  -- what waits on is alone
  waits_alone : (h : Holdings) → h.waits ≡ waiting_pieces (chain_kind a) waits → (left ≡ []) ⊎ (h.waits ≡ [])
  waits_alone h are = elim lone [
    | inl e ↦ inl e
    | inr e ↦ inr (are ∙ ap (waiting_pieces (chain_kind a)) e)
  ]

  -- it has begun
  begun_so : (outs : List Out) (h : Holdings) (so_far : List Arrived) → Traced outs h so_far → FitsHoldings (record { graph = g; list = list }) number (waiting_pieces (chain_kind a) waits) h →
      MayWaitOn (kind_number (kind_by a)) left → Traced (outs ++ (event_records x.events ++ (open_record (live_by a number now) ∷ []))) (record { state = mid; living = h.living ++ kin_of o ∷ []; waits = left; begun = number + 1 }) so_far
  begun_so outs h so_far traced fits on =
      let k = o.speaker.number in
      let waiting : h.waits ++ pieces_made x.events ≡ left ++ (kin_of o).pieces = ap (λ z. z ++ pieces_made x.events) fits.waiting ∙ sym x.pieces in
      let l = live_by a number now in
      let t : Traced (outs ++ (event_records x.events ++ (opened k (kind_number l.kind) l.server l.port l.own l.target ∷ []))) (record { state = mid; living = h.living ++ kin_of o ∷ []; waits = left; begun = k + 1 }) so_far =
      opens outs h so_far x.events mid left (kin_of o) (kind_number l.kind) l.server l.port l.own l.target traced x.makes (subst (λ s. GraphRunOf s x.events mid) (sym fits.state) x.run)
      waiting on (waits_alone h fits.waiting) x.kinds_are (some_pieces o.objects) x.joined (x.newest latest) (subst (λ z. h.begun ≤ z) (sym (number_is a number o is)) fits.numbered) in
      subst (λ z. Traced (outs ++ (event_records x.events ++ (opened z (kind_number l.kind) l.server l.port l.own l.target ∷ []))) (record { state = mid; living = h.living ++ kin_of o ∷ []; waits = left; begun = z + 1 }) so_far) (number_is a number o is) t

  all_records : (outs told : List Out) → outs ++ (event_records x.events ++ (open_record (live_by a number now) ∷ told)) ≡ (outs ++ (event_records x.events ++ (open_record (live_by a number now) ∷ []))) ++ told
  all_records outs told =
      ap (λ z. outs ++ z) (sym (append_assoc (event_records x.events) (open_record (live_by a number now) ∷ []) told)) ∙ sym (append_assoc outs (event_records x.events ++ (open_record (live_by a number now) ∷ [])) told)

  pub begun_traces : (end : Option Cause) (h : Objects Obj) (told : List Out) (list' : List Living) (net net' : Client) → SetsOutOr end a number now link (bare_open o) mid h told → EntersBy end o list net list' net' →
      (outs : List Out) (hold : Holdings) (so_far : List Arrived) → Traced outs hold so_far → FitsHoldings (record { graph = g; list = list }) number (waiting_pieces (chain_kind a) waits) hold →
      MayWaitOn (kind_number (kind_by a)) left → TracesOn (record { graph = g; list = list }) number (waiting_pieces (chain_kind a) waits) (begun_records x.events (live_by a number now) told end) [] (record { graph = h; list = list' }) (number + 1) left outs hold so_far
  begun_traces None h told list' net net' sets enters outs hold so_far traced fits on =
      let t = begun_so outs hold so_far traced fits on in
      let outs1 = outs ++ (event_records x.events ++ (open_record (live_by a number now) ∷ [])) in
      let h1 : Holdings = record { state = mid; living = hold.living ++ kin_of o ∷ []; waits = left; begun = number + 1 } in
      record {
        after = record h1 { state = run_state h.book [] };
        traced = subst (λ z. Traced z (record h1 { state = run_state h.book [] }) (so_far ++ [])) (sym (ap (λ z. outs ++ (event_records x.events ++ (open_record (live_by a number now) ∷ z))) (append-nil told) ∙ all_records outs told))
            (calls outs1 told h1 so_far hold.living [] (kin_of o) None (run_state h.book []) t refl sets.call sets.no_close);
        fits = record { state = refl; living = ap (λ z. z ++ kin_of o ∷ []) fits.living ∙ sym (map-append kin_of list (o ∷ [])) ∙ ap (map kin_of) (sym enters.0); waiting = refl; numbered = omega arith };
      }
  begun_traces (Some cause) h told list' net net' sets enters outs hold so_far traced fits on =
      let t = begun_so outs hold so_far traced fits on in
      let outs1 = outs ++ (event_records x.events ++ (open_record (live_by a number now) ∷ [])) in
      let h1 : Holdings = record { state = mid; living = hold.living ++ kin_of o ∷ []; waits = left; begun = number + 1 } in
      let h2 : Holdings = record h1 { state = run_state h.book []; living = hold.living ++ [] } in
      let t2 : Traced (outs1 ++ (told ++ (ended o.speaker.number cause ∷ []))) h2 (so_far ++ []) =
      ends outs1 told h1 so_far hold.living [] (kin_of o) None (run_state h.book []) cause t refl sets.1.call (sets.1.close ∙ ap Some (sym sets.0)) sets.1.gone in
      record {
        after = h2;
        traced = subst (λ z. Traced z h2 (so_far ++ [])) (sym (all_records outs (told ++ (ended number cause ∷ [])))) (subst (λ z. Traced (outs1 ++ (told ++ (ended z cause ∷ []))) h2 (so_far ++ [])) (number_is a number o is) t2);
        fits = record { state = refl; living = append-nil hold.living ∙ fits.living ∙ ap (map kin_of) (sym enters.0); waiting = refl; numbered = omega arith };
      }

-- THE MACHINE

first_by : (end : Option Cause) (a : Opening) (number now : ℕ) (link : Client) (o : Living) (mid : GraphState) (h : Objects Obj) (told : List Out) → SetsOutOr end a number now link (bare_open o) mid h told → FirstBy end (live_by a number now) link (without_graph told)
first_by None a number now link o mid h told sets = sets.first
first_by (Some cause) a number now link o mid h told sets = (sets.1.first, sets.1.silent, sets.0)

module _ (a : Opening) (number now : ℕ) (link : Client) (o : Living) (mid : GraphState) (g h : Objects Obj) (list list' : List Living) (net' : Client) (told : List Out) (kept : o.drive ≡ drive_by a) (far : AllByRecursion (IsApartFrom (objects_ids o.objects)) list) (stay : (p : Living) (l : Live) → IsApartFrom (objects_ids o.objects) p → IsLivingOf g p l → IsLivingOf h p l) where
  pub begun_first : (end : Option Cause) → SetsOutOr end a number now link (bare_open o) mid h told → FirstBy end (live_by a number now) link (without_graph told)
  begun_first end sets = first_by end a number now link o mid h told sets

  pub begun_state : (end : Option Cause) → SetsOutOr end a number now link (bare_open o) mid h told → EntersBy end o list link list' net' → (s : State) → IsStateOf (record { graph = g; list = list }) link now s →
      BegunBy end (record { graph = h; list = list' }) net' now (live_by a number now) (without_graph told) s
  begun_state None sets enters s state = record {
    devices = state.devices ∙ ap (λ c. bare c ∷ []) (sym enters.1);
    time = state.time;
    live = subst (λ os. AreOpensOf h os (s.live ++ live_by a number now ∷ [])) (sym enters.0)
        (opens_append h list s.live (o ∷ []) (live_by a number now ∷ []) (opens_move g h (IsApartFrom (objects_ids o.objects)) stay list s.live far state.live) (begins_as a number now h o kept sets.lives, tt));
  }
  begun_state (Some cause) sets enters s state = record {
    devices = state.devices ∙ ap (λ c. bare c ∷ []) (sym enters.1);
    time = state.time;
    live = subst (λ os. AreOpensOf h os s.live) (sym enters.0) (opens_move g h (IsApartFrom (objects_ids o.objects)) stay list s.live far state.live);
  }
