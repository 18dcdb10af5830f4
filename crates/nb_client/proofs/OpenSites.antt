-- An open for what a command asks, once it was begun: its command waits, or it has ended at once.
use Rattle.std.proofs.Common.{◌≡◌, ◌⊎◌, inl, inr, ℕ, ◌+◌, ◌*◌, ◌≤◌, List, [], ◌∷◌, ◌++◌, Option, Some, None, refl, sym, ◌∙◌, ap, subst, append-nil, append_assoc, arith}
use Rattle.std.specs.List.{AllByRecursion}
use Rattle.nb_chains.specs.declared.chain.Chain.{Chain}
use Rattle.nb_chains.specs.declared.kind.ChainKind.TheVariants as chain
use Rattle.nb_chains.specs.declared.kind.ChainKind.{ChainKind}
use Rattle.nb_chains.specs.Kinds.{top_number}
use Rattle.nb_ledger.specs.declared.port.ObjId.{ObjId}
use Rattle.nb_terms.specs.declared.cause.Cause.{Cause}
use Rattle.nb_defs.specs.Records.{Out, out_texts, result}
use Rattle.nb_ledger.specs.declared.event.GraphEvent.{GraphEvent}
use Rattle.nb_machine.specs.Lives.{Live, end_record, kind_number, open_record}
use Rattle.nb_machine.specs.Running.{Running, with_result}
use Rattle.nb_network.specs.Many.{AreSound, FitsHoldings, Many, IsUntied}
use Rattle.nb_network.specs.Openings.{OpensOne, begun_records, number_by}
use Rattle.nb_open.specs.declared.opening.Opening.{Opening}
use Rattle.nb_open.specs.Begins.{waiting_pieces}
use Rattle.nb_open.specs.declared.opening.Opening.TheVariants as opening
use Rattle.nb_open.specs.Open.{pieces_below}
use Rattle.nb_open.specs.Opening.{chain_kind, kind_by, live_by}
use Rattle.nb_traced.specs.Plain.{without_graph}
use Rattle.nb_traced.proofs.Plain.{plain_append, plain_behind}
use Rattle.nb_record.specs.Logged.{Logged, Puts}
use Rattle.nb_runner.proofs.Puts.{Puts-outs}
use Rattle.nb_runner.specs.World.{IsLinkOfState}
use Rattle.nb_runner.specs.declared.errand.Errand.{Errand}
use Rattle.nb_runner.specs.declared.errand.Errand.TheVariants as errand
use Rattle.nb_runner.specs.declared.query.Query.TheVariants as query
use Rattle.nb_runner.specs.declared.world.World.{World}
use Rattle.nb_stack.specs.Client.{Client}
use Rattle.nb_traced.specs.Outputs.{MayWaitOn, Traced, apart}
use Rattle.nb_traced.specs.Pieces.{event_records}
use Rattle.nb_client.specs.Asked.{awaited_asked, beside_kind, errand_kind, job_asked, live_asked}
use Rattle.nb_client.specs.Beginnings.{BeginsNext, DropsWaiting, OpensOwn, asked_kind}
use Rattle.nb_client.specs.Openings.{IsOpenedIn, Opened, begun_script, front_records}
use Rattle.nb_client.specs.Serving.{world_at}
use Rattle.nb_client.specs.Snapshots.{snapshot, state_of_world}
use Rattle.nb_client.specs.Soundness.{FitsAsked, HasRoomFor, HasWaiting, IsBacked, IsSound, asks_block}
use Rattle.nb_client.specs.declared.asked.Asked.{Asked}
use Rattle.nb_client.specs.declared.asked.Asked.TheVariants.{File, Query as Exchange, Disk, Block}
use Rattle.nb_client.specs.declared.opening.NewOpen.{NewOpen}
use Rattle.nb_client.specs.declared.pending.Expected.TheVariants.{Open}
use Rattle.nb_client.specs.declared.pending.Pending.{Pending}
use Rattle.nb_client.specs.declared.site.Site.{Site}
use Rattle.nb_client.specs.declared.stage.Stage.{Stage}
use Rattle.nb_client.specs.declared.stage.Stage.TheVariants as stage
use Rattle.nb_client.proofs.DriveLists.{kept_none_more}
use Rattle.nb_client.proofs.HookedDrives.{more_hooked}
use Rattle.nb_client.proofs.OpenRecords.{plain_begun}
use Rattle.nb_client.proofs.OpenStates.{goes_back, lives_on, state_is, world_begun}
use Rattle.nb_client.proofs.Silent.{silent_begun}

-- the next open was begun, as it stands over this link and among these opens
pub record HasBegun (a : Asked) (o : Opening) (waits left : Option Chain) (before : Site) (net : Client) (m : Many) (ended : Option Cause) (made_text told_text : List ℕ) : Type 0 where
  pub opens : OpensOne before.opens before.world.net before.world.time before.world.opens o (waiting_pieces (chain_kind o) waits) (waiting_pieces (beside_kind a) left) m net ended made_text told_text
  pub sound : AreSound before.world.w (before.world.opens + 1) net m
  pub serials : m.graph.book.made ≤ 4 * before.world.opens + 4
  pub linked : IsLinkOfState (world_at before.world net before.world.time)
  pub waiting : HasWaiting (beside_kind a) left (number_by ended before.world.opens) m

pub has_begun : (a : Asked) (o : Opening) (waits : Option Chain) (before begun : Site) (made : NewOpen) (ended : Option Cause) → made.ended ≡ ended → BeginsNext o (beside_kind a) waits before begun made →
    HasBegun a o waits made.waits before begun.world.net begun.opens ended made.desk.made.value.text made.desk.told.value.text
has_begun a o waits before begun made ended is b =
    subst (λ e. HasBegun a o waits made.waits before begun.world.net begun.opens e made.desk.made.value.text made.desk.told.value.text) is (record {
      opens = b.opens;
      sound = subst (λ (v : World). AreSound v.w (v.opens + 1) begun.world.net begun.opens) b.world b.sound;
      serials = b.serials;
      linked = subst IsLinkOfState b.world b.linked;
      waiting = b.waiting;
    })

-- WHAT WAITS BESIDE IT

name_number : (o : Opening) → chain_kind o ≡ chain.Name → kind_number (kind_by o) ≡ 4
name_number (opening.Name a) e = refl
name_number (opening.File a) e = absurd (let no : chain.File ≡ chain.Name = e in cc)
name_number (opening.Web a) e = absurd (let no : chain.File ≡ chain.Name = e in cc)
name_number (opening.Drive a) e = absurd (let no : chain.Drive ≡ chain.Name = e in cc)
name_number (opening.Lease a) e = absurd (let no : chain.Lease ≡ chain.Name = e in cc)
name_number (opening.Echo a) e = absurd (let no : chain.Echo ≡ chain.Name = e in cc)

errand_number : (e : Errand) → (top_number (errand_kind e) ≡ 1) ⊎ ((top_number (errand_kind e) ≡ 7) ⊎ (top_number (errand_kind e) ≡ 9))
errand_number (errand.File f) = inl refl
errand_number errand.Echo = inr (inl refl)
errand_number (errand.Disk h) = inr (inr refl)

nothing_beside : (n : ℕ) (kind : ChainKind) (left : Option Chain) → left ≡ None → MayWaitOn n (waiting_pieces kind left)
nothing_beside n kind left e = subst (λ x. MayWaitOn n (waiting_pieces kind x)) (sym e) tt

one_beside : (n : ℕ) (kind : ChainKind) (left : Option Chain) (c : Chain) → left ≡ Some c → c.below ≡ None → n ≡ 4 → (top_number kind ≡ 1) ⊎ ((top_number kind ≡ 7) ⊎ (top_number kind ≡ 9)) → MayWaitOn n (waiting_pieces kind left)
one_beside n kind left c e alone name has = subst (λ x. MayWaitOn n (waiting_pieces kind x)) (sym e)
    (subst (λ (d : Option ObjId). MayWaitOn n (record { serial = c.top.0; kind = top_number kind } ∷ pieces_below d)) (sym alone) (name, has))

-- it is the one object that has a server, beside the look-up of its name
may_wait : (a : Asked) (o : Opening) (left : Option Chain) (awaited : Option ℕ) (m : Many) → chain_kind o ≡ asked_kind a → IsBacked a left → HasWaiting (beside_kind a) left awaited m →
    MayWaitOn (kind_number (kind_by o)) (waiting_pieces (beside_kind a) left)
may_wait (File w) o left awaited m is backed h = nothing_beside (kind_number (kind_by o)) chain.File left backed
may_wait (Disk d) o left awaited m is backed h = nothing_beside (kind_number (kind_by o)) chain.File left backed
may_wait (Block d) o left awaited m is backed h = nothing_beside (kind_number (kind_by o)) chain.File left backed
may_wait (Exchange query.Lease) o left awaited m is backed h = nothing_beside (kind_number (kind_by o)) chain.File left backed
may_wait (Exchange (query.Echo server)) o left awaited m is backed h = nothing_beside (kind_number (kind_by o)) chain.Echo left backed
may_wait (Exchange (query.Address setting name by)) o left awaited m is backed h = nothing_beside (kind_number (kind_by o)) chain.File left backed
may_wait (Exchange (query.Host e name by)) o left awaited m is backed h =
    one_beside (kind_number (kind_by o)) (errand_kind e) left backed.0 backed.1 (h.beside backed.0 backed.1).waits.alone (name_number o is) (errand_number e)

-- what is put of it
abbrev pub PutsBegun : Option (List (List ℕ)) → Running → Opening → World → Option Cause → List ℕ → List ℕ → Logged → Logged → Type 0
PutsBegun shown script o w ended made_text told_text old new =
    (events : List GraphEvent) (told : List Out) (since : ℕ) → made_text ≡ out_texts (event_records events) → told_text ≡ out_texts told →
    Puts old new (out_texts (front_records shown script ++ begun_records events (live_by o w.opens since) told ended))

-- it is what was asked for
pub record IsOpeningFor (a : Asked) (o : Opening) (w : World) : Type 0 where
  pub live : (live : List Live) → live_by o w.opens w.time ≡ live_asked (state_of_world w live) a
  pub kind : chain_kind o ≡ asked_kind a

abbrev pub pending_for : World → Asked → Option Chain → Pending
pending_for w a left = record { number = w.opens; asked = a; waits = left }

-- the command waits
pub opened_waits : {old new : Logged} {made_text told_text : List ℕ} (a : Asked) (o : Opening) (waits left : Option Chain) (shown : Option (List (List ℕ))) (script : Running) (before : Site) (net : Client) (m : Many) →
    IsSound before.used before.world before.opens (stage.Running script) → FitsAsked a → OpensOwn a → HasRoomFor a before.world.state.drives → IsOpeningFor a o before.world → IsBacked a left → HasBegun a o waits left before net m None made_text told_text →
    PutsBegun shown script o before.world None made_text told_text old new →
    Opened a (waiting_pieces (asked_kind a) waits) shown script before (snapshot before.used (world_begun before.world net) m (stage.Waiting (begun_script shown script) (Open (pending_for before.world a left)))) old new
opened_waits {old} {new} a o waits left shown script before net m sound fits own room is backed h puts =
    let w = before.world in
    let l = live_by o w.opens w.time in
    let records = begun_records h.opens.made l h.opens.told None in
    let after = snapshot before.used (world_begun w net) m (stage.Waiting (begun_script shown script) (Open (pending_for w a left))) in
    let plain : without_graph records ≡ open_record l ∷ without_graph h.opens.told = plain_begun h.opens.made l h.opens.told None ∙ ap (λ t. open_record l ∷ t) (append-nil (without_graph h.opens.told)) in
    record {
      rest = records;
      puts = puts h.opens.made h.opens.told w.time h.opens.made_is h.opens.told_is;
      opens = λ live are.
          let s = state_of_world w live in
          subst (λ xs. IsOpenedIn s (live_asked s a) (awaited_asked a w.opens) (job_asked a) (begun_script shown script) w.outer before.used xs after) (sym plain)
          (subst (λ x. IsOpenedIn s x (awaited_asked a w.opens) (job_asked a) (begun_script shown script) w.outer before.used (open_record l ∷ without_graph h.opens.told) after) (is.live live)
          (lives_on before.used w net m live o (pending_for w a left) (begun_script shown script) (without_graph h.opens.told) refl h.opens.first_put (h.opens.state s (state_is before.opens w live are))));
      traces = λ outs k so_far t stood.
          let on = h.opens.traces outs k so_far t (subst (λ x. FitsHoldings before.opens w.opens (waiting_pieces x waits) k) (sym is.kind) stood) (may_wait a o left _ m is.kind backed h.waiting) in
          record { holdings = on.after; traced = subst (λ x. Traced (outs ++ records) on.after x) (append-nil so_far) on.traced; fits = on.fits };
      sound = record {
        time = sound.time;
        opens = h.sound;
        serials = omega (arith, h.serials);
        tied = h.opens.tied sound.tied;
        well = record {
          asked = record { fits = fits; backed = backed; waiting = h.waiting };
          room = room;
          silent =
              let live = sound.hooked.live in
              silent_begun a own before.opens m w.opens l live sound.hooked.are sound.opens.rising refl refl (h.opens.state (state_of_world w live) (state_is before.opens w live sound.hooked.are)).live;
        };
        short = sound.short;
        named = sound.named;
        linked = record { address = h.linked.address; up = h.linked.up };
        hooked =
            let live = sound.hooked.live in
            more_hooked before.opens m w.opens l (asks_block a w.opens) w.state.drives sound.hooked sound.opens.rising refl refl (h.opens.state (state_of_world w live) (state_is before.opens w live sound.hooked.are)).live;
      };
      under_way = tt;
      same_script = λ x. absurd x;
    }

-- there was no way to its server, and what was to wait beside it is let go
pub opened_back : {old mid new : Logged} {made_text told_text : List ℕ} (a : Asked) (o : Opening) (waits left : Option Chain) (shown : Option (List (List ℕ))) (script : Running) (before begun now : Site) (cause : Cause) →
    IsSound before.used before.world before.opens (stage.Running script) → IsOpeningFor a o before.world → IsBacked a left → begun.world ≡ world_at before.world begun.world.net before.world.time →
    HasBegun a o waits left before begun.world.net begun.opens (Some cause) made_text told_text → PutsBegun shown script o before.world (Some cause) made_text told_text old mid →
    DropsWaiting (beside_kind a) left (before.world.opens + 1) begun now (result cause ∷ []) mid new →
    Opened a (waiting_pieces (asked_kind a) waits) shown script before (snapshot before.used (world_begun before.world begun.world.net) now.opens (stage.Running (with_result (begun_script shown script) cause))) old new
opened_back {old} {mid} {new} a o waits left shown script before begun now cause sound is backed world h puts lets =
    let w = before.world in
    let l = live_by o w.opens w.time in
    let front = front_records shown script in
    let records = begun_records h.opens.made l h.opens.told (Some cause) in
    let freed = event_records lets.events in
    let more = freed ++ (result cause ∷ []) in
    let inner = begun_script shown script in
    let after = snapshot before.used (world_begun w begun.world.net) now.opens (stage.Running (with_result inner cause)) in
    let silent : without_graph h.opens.told ≡ [] = h.opens.first_put.1 in
    let plain : without_graph (records ++ more) ≡ open_record l ∷ end_record l cause ∷ result cause ∷ [] =
    plain_append records more
    ∙ (ap (λ t. t ++ without_graph more) (plain_begun h.opens.made l h.opens.told (Some cause) ∙ ap (λ t. open_record l ∷ (t ++ (end_record l cause ∷ []))) silent)
    ∙ ap (λ t. (open_record l ∷ end_record l cause ∷ []) ++ t) (plain_behind lets.events (result cause ∷ []))) in
    record {
      rest = records ++ more;
      puts = subst (λ xs. Puts old new (out_texts xs)) (append_assoc front records more) (Puts-outs (front ++ records) more (puts h.opens.made h.opens.told w.time h.opens.made_is h.opens.told_is) lets.puts);
      opens = λ live are.
          let s = state_of_world w live in
          subst (λ xs. IsOpenedIn s (live_asked s a) (awaited_asked a w.opens) (job_asked a) inner w.outer before.used xs after) (sym plain)
          (subst (λ x. IsOpenedIn s x (awaited_asked a w.opens) (job_asked a) inner w.outer before.used (open_record l ∷ end_record l cause ∷ result cause ∷ []) after) (is.live live)
          (goes_back before.used w begun.world.net now.opens live o a inner cause (without_graph h.opens.told) h.opens.first_put
          (lets.state begun.world.net w.time s (h.opens.state s (state_is before.opens w live are)))));
      traces = λ outs k so_far t stood.
          let on = h.opens.traces outs k so_far t (subst (λ x. FitsHoldings before.opens w.opens (waiting_pieces x waits) k) (sym is.kind) stood) (may_wait a o left _ begun.opens is.kind backed h.waiting) in
          let t1 : Traced (outs ++ records) on.after so_far = subst (λ x. Traced (outs ++ records) on.after x) (append-nil so_far) on.traced in
          let later = lets.traces (outs ++ records) on.after so_far t1 on.fits in
          let t2 : Traced ((outs ++ records) ++ freed) later.after so_far = subst (λ x. Traced ((outs ++ records) ++ freed) later.after x) (append-nil so_far) later.traced in
          record {
            holdings = later.after;
            traced = subst (λ xs. Traced xs later.after so_far) (append_assoc (outs ++ records) freed (result cause ∷ []) ∙ append_assoc outs records more)
                (apart ((outs ++ records) ++ freed) (result cause ∷ []) later.after so_far t2 (tt, tt));
            fits = later.fits;
          };
      sound = record {
        time = sound.time;
        opens = subst (λ (v : World). AreSound v.w (w.opens + 1) begun.world.net now.opens) world lets.sound;
        serials = omega (arith, h.serials, lets.serials);
        tied = subst (AllByRecursion IsUntied) (sym lets.same_list) (h.opens.tied sound.tied);
        well = tt;
        short = sound.short;
        named = sound.named;
        linked = record { address = h.linked.address; up = h.linked.up };
        hooked =
            let x = sound.hooked in
            let on = lets.state begun.world.net w.time (state_of_world w x.live) (h.opens.state (state_of_world w x.live) (state_is before.opens w x.live x.are)) in
            record {
              kept = kept_none_more before.opens.graph now.opens.graph before.opens.list now.opens.list x.live w.state.drives x.are on.live x.kept;
              live = x.live;
              are = on.live;
              unasked = x.unasked;
              kinds = x.kinds;
            };
      };
      under_way = tt;
      same_script = λ x. (cause, refl, refl);
    }

pub same_snapshot : {n n' : ℕ} {w w' : World} {m m' : Many} (st st' : Stage) → n ≡ n' → w ≡ w' → m ≡ m' → st ≡ st' → snapshot n w m st ≡ snapshot n' w' m' st'
same_snapshot {n} {n'} {w} {w'} {m} {m'} st st' a b c d =
    ap (λ x. snapshot x w m st) a ∙ (ap (λ x. snapshot n' x m st) b ∙ (ap (λ x. snapshot n' w' x st) c ∙ ap (λ x. snapshot n' w' m' x) d))
