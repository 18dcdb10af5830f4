-- The first message of an open, and what is told where the user asks.
use Rattle.std.proofs.Common.{◌≡◌, ℕ, ◌||◌, not, Bool, true, false, cond, List, [], ◌∷◌, ◌++◌, Option, Some, None, refl, sym, ◌∙◌, ap, subst}
use Rattle.nb_terms.specs.declared.acts.Acts.{Acts}
use Rattle.nb_terms.specs.declared.acts.SendTo.{SendTo}
use Rattle.nb_defs.specs.Records.{Out, sent}
use Rattle.nb_ledger.specs.declared.event.GraphEvent.TheVariants.{Entered, Left}
use Rattle.nb_ledger.specs.declared.event.Way.TheVariants as way
use Rattle.nb_ledger.specs.Flat.{Notice}
use Rattle.nb_graph.specs.Whole.{port_at}
use Rattle.nb_nodes.specs.Carried.{downs_of}
use Rattle.nb_opens.specs.AloneNotices.{alone_call}
use Rattle.nb_opens.specs.Notices.{begun_notices, down_notices, first_close, tells}
use Rattle.nb_stack.specs.Client.{Client}
use Rattle.nb_stack.specs.Sends.{put_on, way_of}
use Rattle.nb_machine.specs.Sendings.{acts_records, has_route, send_records, sends_records, try_records}
use Rattle.nb_machine.specs.Transfers.{finds_none}
use Rattle.nb_teller.specs.Tellings.{any_lacks_route}
use Rattle.nb_open.specs.declared.open.Open.{Open}
use Rattle.nb_open.proofs.CoreCalls.{alone_closes, alone_lacks, alone_others, messages_close}
use Rattle.nb_open.proofs.Doings.{put_by}
use Rattle.nb_open.proofs.Downs.{AreSendsBy, downs_lack, downs_others}
use Rattle.nb_open.proofs.Quiet.{lacks_within, others_within}

-- one message is asked for, as a first try
abbrev pub asks_first : SendTo → Acts
asks_first m = record { sends = record { items = m ∷ [] }; tried = Some 1; advance = None; give = None; ready = false; over = None }

-- its records where it finds a route
abbrev pub first_of : Client → ℕ → SendTo → Option (List Out)
first_of link k m = cond (has_route link m) (Some (send_records link k (Some 1) m)) None

pub first_acts_are : (link : Client) (k : ℕ) (m : SendTo) → acts_records link k (asks_first m) ≡ send_records link k (Some 1) m
unfolding acts_records sends_records
first_acts_are link k m = refl

-- what is told where a first message was asked for
pub record AsksAtFirst (o : Open) (link : Client) (m : SendTo) (ns : List Notice) : Type 0 where
  pub none : first_close ns ≡ None
  pub found : any_lacks_route link o.speaker ns ≡ false → first_of link o.speaker.number m ≡ Some (put_by o link ns)
  pub lost : any_lacks_route link o.speaker ns ≡ true → (first_of link o.speaker.number m ≡ None) × (put_by o link ns ≡ [])

module _ (o : Open) (link : Client) (m : SendTo) (ns : List Notice) (none : first_close ns ≡ None) (others : put_by o link ns ≡ acts_records link o.speaker.number (asks_first m)) (lacks : any_lacks_route link o.speaker ns ≡ finds_none link (asks_first m)) where
  sends : List Out
  sends = try_records o.speaker.number (Some 1) ++ (sent (put_on link m (way_of link m)) ∷ [])

  put_is : put_by o link ns ≡ send_records link o.speaker.number (Some 1) m
  put_is = others ∙ first_acts_are link o.speaker.number m

  pub asks_at_first : AsksAtFirst o link m ns
  asks_at_first = record {
    none = none;
    found = λ no. subst (λ z. first_of link o.speaker.number m ≡ Some z) (sym put_is) (by_found (has_route link m) (sym lacks ∙ no) _);
    lost = λ yes. (by_lost (has_route link m) (sym lacks ∙ yes) _, put_is ∙ by_none (has_route link m) (sym lacks ∙ yes) _);
  }
    where
      by_found : (r : Bool) → (not r || false) ≡ false → (xs : List Out) → cond r (Some (cond r xs [])) None ≡ Some (cond r xs [])
      by_found true h xs = refl
      by_found false h xs = absurd (let wrong : true ≡ false = h in cc)

      by_lost : (r : Bool) → (not r || false) ≡ true → (xs : List Out) → cond r (Some (cond r xs [])) None ≡ None
      by_lost true h xs = absurd (let wrong : false ≡ true = h in cc)
      by_lost false h xs = refl

      by_none : (r : Bool) → (not r || false) ≡ true → (xs : List Out) → cond r xs [] ≡ []
      by_none true h xs = absurd (let wrong : false ≡ true = h in cc)
      by_none false h xs = refl

-- of one core
pub alone_first : (o : Open) (link : Client) (m : SendTo) (x rec : ℕ) (ns : List Notice) → AreSendsBy o.speaker (m ∷ []) → ns ≡ alone_call x (port_at x 0) way.Down rec (asks_first m) [] → AsksAtFirst o link m ns
alone_first o link m x rec ns sends same =
    asks_at_first o link m ns
    (ap first_close same ∙ alone_closes x (port_at x 0) way.Down rec (asks_first m) [])
    (ap (put_by o link) same ∙ alone_others link o x (port_at x 0) way.Down rec (asks_first m) [] tt sends)
    (ap (any_lacks_route link o.speaker) same ∙ alone_lacks link o x (port_at x 0) way.Down rec (asks_first m) [] tt sends)

-- and of a transfer
pub two_first : (o : Open) (link : Client) (m : SendTo) (f t rec : ℕ) (ns : List Notice) → AreSendsBy o.speaker (m ∷ []) → ns ≡ begun_notices f t rec (asks_first m) → AsksAtFirst o link m ns
two_first o link m f t rec ns sends same =
    let front : List Notice = tells (Entered (port_at f 0) way.Down) ∷ tells (Entered (port_at t 0) way.Down) ∷ [] in
    let back : List Notice = tells (Left (port_at t 0)) ∷ tells (Left (port_at f 0)) ∷ [] in
    asks_at_first o link m ns
    (ap first_close same ∙ messages_close (port_at t 1) (downs_of rec (asks_first m)) back)
    (ap (put_by o link) same ∙ (others_within link o.speaker front (down_notices t rec (asks_first m)) back (tt, (tt, tt)) (tt, (tt, tt)) ∙ downs_others link o.speaker (port_at t 1) rec (asks_first m) sends))
    (ap (any_lacks_route link o.speaker) same ∙ (lacks_within link o.speaker front (down_notices t rec (asks_first m)) back (tt, (tt, tt)) (tt, (tt, tt)) ∙ downs_lack link o.speaker (port_at t 1) rec (asks_first m) sends))
