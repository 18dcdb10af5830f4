-- What waits is let go.
use Rattle.std.proofs.Common.{◌≡◌, ℕ, true, List, [], ◌∷◌, ◌++◌, refl, sym, ◌∙◌, ap, subst, append-nil, arith}
use Rattle.std.specs.List.{AllByRecursion}
use Rattle.nb_frames.specs.Frames.{is_one_of}
use Rattle.nb_frames.specs.Within.{IsEventWithin}
use Rattle.nb_graph.specs.Noded.{AreNoded}
use Rattle.nb_graph.specs.Whole.{Objects}
use Rattle.nb_ledger.specs.GraphRun.{GraphRunOf}
use Rattle.nb_ledger.specs.Ledger.{run_state}
use Rattle.nb_nodes.specs.declared.obj.Obj.{Obj}
use Rattle.nb_nodes.specs.Objects.{rank_of_obj}
use Rattle.nb_stack.specs.Client.{Client}
use Rattle.nb_machine.specs.Lives.{Live}
use Rattle.nb_chains.specs.declared.chain.Chain.{Chain}
use Rattle.nb_chains.specs.declared.kind.ChainKind.{ChainKind}
use Rattle.nb_chains.specs.Chains.{chain_ids}
use Rattle.nb_teller.specs.Spelling.{Spelling}
use Rattle.nb_traced.specs.Holdings.{serials}
use Rattle.nb_traced.specs.Outputs.{Traced, gives_up}
use Rattle.nb_traced.specs.Pieces.{event_records}
use Rattle.nb_network.specs.declared.living.Living.{Living}
use Rattle.nb_open.specs.Ends.{GivesUp}
use Rattle.nb_open.specs.Open.{pieces_of}
use Rattle.nb_network.specs.Closings.{GivesUpWaiting}
use Rattle.nb_network.specs.Many.{AreSound, IsApartFrom, IsLivingOf, IsLivingOfSome}
use Rattle.nb_network.proofs.Lists.{opens_move}
use Rattle.nb_network.proofs.Staying.{open_stays}
use Rattle.nb_network.proofs.Traces.{serials_are}

module _ (kind : ChainKind) (c : Chain) (g h : Objects Obj) (list : List Living) (freed : Spelling) (x : GivesUp kind c g h freed) (noded : AreNoded rank_of_obj h) (apart : AllByRecursion (IsApartFrom (chain_ids c)) list) where
  stay : (p : Living) (l : Live) → IsApartFrom (chain_ids c) p → IsLivingOf g p l → IsLivingOf h p l
  stay p l far i = open_stays g h p l noded (λ y own. x.released.others.others y (i.chained.given y own) (far y own)) (let e = x.released.others.same_made in omega (arith, e)) i

  all_live : (os : List Living) → AllByRecursion (IsApartFrom (chain_ids c)) os → AllByRecursion (IsLivingOfSome g) os → AllByRecursion (IsLivingOfSome h) os
  all_live [] far i = tt
  all_live (p ∷ os) far i = ((i.0.0, stay p i.0.0 far.0 i.0.1), all_live os far.1 i.1)

  pub given_up_sound : (w opens : ℕ) (net : Client) → AreSound w opens net (record { graph = g; list = list }) → AreSound w opens net (record { graph = h; list = list })
  given_up_sound w opens net s = record {
    w_fits = s.w_fits;
    opens_fit = s.opens_fit;
    ports = s.ports;
    rising = s.rising;
    own = s.own;
    one_lease = s.one_lease;
    lives = all_live list apart s.lives;
    apart = s.apart;
    room = x.released.same_room ∙ s.room;
  }

  pub given_up : (opens : ℕ) → GivesUpWaiting kind c (record { graph = g; list = list }) opens (record { graph = h; list = list }) freed.text
  given_up opens = record {
    events = x.events;
    text_is = x.text;
    same_list = refl;
    state = λ net now s i. record { devices = i.devices; time = i.time; live = opens_move g h (IsApartFrom (chain_ids c)) stay list s.live apart i.live };
    traces = λ outs hold so_far traced fits.
        let ids : serials hold.waits ≡ serials (pieces_of kind c) = ap serials fits.waiting in
        record {
          after = record hold { state = run_state h.book []; waits = [] };
          traced = subst (λ z. Traced (outs ++ event_records x.events) (record hold { state = run_state h.book []; waits = [] }) z) (sym (append-nil so_far))
              (gives_up outs hold so_far x.events (run_state h.book []) traced (subst (λ s. GraphRunOf s x.events (run_state h.book [])) (sym fits.state) x.run)
              (subst (λ z. AllByRecursion (IsEventWithin (is_one_of z)) x.events) (sym ids) x.within) x.inner
              (λ y own. x.released.gone y (subst (λ z. is_one_of z y ≡ true) (ids ∙ serials_are kind c) own)) refl);
          fits = record { state = refl; living = fits.living; waiting = refl; numbered = fits.numbered };
        };
  }
