-- How an output goes on in which the graph is traced, where something comes to one of the opens that live.
use Rattle.std.proofs.Common.{◌≡◌, ℕ, true, false, List, [], ◌∷◌, ◌++◌, map, fold, Option, Some, None, refl, sym, ◌∙◌, ap, subst, append_assoc, append-nil}
use Rattle.std.specs.List.{AllByRecursion}
use Rattle.std.proofs.lemmas.List.{map-append}
use Rattle.std.proofs.lemmas.List.Sums.{fold-append}
use Rattle.nb_defs.specs.Records.{Out, step, sent, ended, graph}
use Rattle.nb_terms.specs.declared.cause.Cause.{Cause}
use Rattle.nb_ledger.specs.declared.event.Way.{Way}
use Rattle.nb_ledger.specs.declared.event.GraphEvent.TheVariants.{Entered}
use Rattle.nb_ledger.specs.declared.port.ObjId.{ObjId}
use Rattle.nb_ledger.specs.declared.port.Port.{Port}
use Rattle.nb_ledger.specs.Flat.{flat}
use Rattle.nb_ledger.specs.GraphRun.{GraphState}
use Rattle.nb_ledger.specs.Ledger.{object_lives, run_state}
use Rattle.nb_frames.specs.Frames.{is_one_of}
use Rattle.nb_chains.specs.declared.chain.Chain.{Chain}
use Rattle.nb_chains.specs.declared.kind.ChainKind.{ChainKind}
use Rattle.nb_chains.specs.Chains.{below_ids, chain_ids}
use Rattle.nb_traced.specs.Holdings.{Holdings, GraphObject, lowest_of, serials}
use Rattle.nb_traced.specs.Outputs.{Arrived, CallsOpen, Traced, arrived_by_way, last_step, own_serials, step_by, apart, calls, ends}
use Rattle.nb_traced.specs.Pieces.{IsCallOn, IsOfOpen, first_close_of}
use Rattle.nb_traced.proofs.OnEntries.{begins_with, each_on_entries}
use Rattle.nb_open.specs.declared.objects.OpenObjects.{OpenObjects}
use Rattle.nb_open.specs.declared.objects.OpenObjects.TheVariants as objects
use Rattle.nb_network.specs.declared.living.Living.{Living}
use Rattle.nb_open.specs.Objects.{objects_ids}
use Rattle.nb_open.specs.Open.{objects_pieces, pieces_below, pieces_of}
use Rattle.nb_network.specs.Many.{FitsHoldings, Many, kin_of}
use Rattle.nb_network.specs.Steps.{TracesAt}
use Rattle.nb_network.specs.Takes.{TracesOn, arrival}
use Rattle.nb_network.specs.Drives.{DriveNews, noted}

-- THE LAST STEP

pub last_more : (outs added : List Out) → last_step (outs ++ added) ≡ fold step_by (last_step outs) added
unfolding last_step
last_more outs added = fold-append step_by 0 outs added

pub last_is_step : (outs : List Out) (n : ℕ) → last_step (outs ++ step n ∷ []) ≡ n
last_is_step outs n = last_more outs (step n ∷ [])

put_no_step : (n k : ℕ) (o : Out) → IsOfOpen k o → step_by n o ≡ n
put_no_step n k (step number) h = absurd h
put_no_step n k (sent bytes) h = refl
put_no_step n k o h = refl

all_no_step : (n : ℕ) (os : List Out) → AllByRecursion (λ o. step_by n o ≡ n) os → fold step_by n os ≡ n
all_no_step n [] h = refl
all_no_step n (o ∷ os) h = ap (λ z. fold step_by z os) h.0 ∙ all_no_step n os h.1

-- a call puts no step
pub call_no_step : (n k : ℕ) (ids : List ℕ) (x : ℕ) (by : Option Way) (records : List Out) (s t : GraphState) → IsCallOn k ids x by records s t → fold step_by n records ≡ n
call_no_step n k ids x by records s t c = all_no_step n records (each_on_entries (λ o. step_by n o ≡ n) k x (λ e. refl) (put_no_step n k) false records c.events c.stand)

-- a call by an entry from outside begins with that
pub begins_entry : (k : ℕ) (ids : List ℕ) (x : ℕ) (way : Way) (records : List Out) (s t : GraphState) → IsCallOn k ids x (Some way) records s t → (more : List Out) →
    (p : Port) × (rest : List Out) × (records ++ more ≡ graph (flat (Entered p way)) ∷ rest)
begins_entry k ids x way records s t c more =
    let b = begins_with k x records c.events (Entered c.begins.port way) c.begins.rest c.stand c.begins.first in (c.begins.port, b.behind ++ more, ap (λ z. z ++ more) b.first)

-- WHOSE OBJECTS

below_serials : (b : Option ObjId) → map (λ (p : GraphObject). p.serial) (pieces_below b) ≡ below_ids b
below_serials None = refl
below_serials (Some x) = refl

pub serials_are : (kind : ChainKind) (c : Chain) → serials (pieces_of kind c) ≡ chain_ids c
serials_are kind c = ap (λ z. c.top.0 ∷ z) (below_serials c.below)

objects_are : (os : OpenObjects) → serials (objects_pieces os) ≡ objects_ids os
objects_are (objects.Chain kind chain) = serials_are kind chain
objects_are (objects.Web port own chain) = refl
objects_are (objects.Drive port own chain) = refl

pub own_are : (o : Living) → own_serials (kin_of o) ≡ objects_ids o.objects
own_are o = objects_are o.objects

pub kins_around : (before : List Living) (o : Living) (behind : List Living) → map kin_of (before ++ o ∷ behind) ≡ map kin_of before ++ kin_of o ∷ map kin_of behind
kins_around before o behind = map-append kin_of before (o ∷ behind)

-- WHAT CAME

abbrev pub came_by : ℕ → ℕ → Option Way → List Arrived
came_by n k None = []
came_by n k (Some way) = arrival k way n ∷ []

arrived_is : (outs : List Out) (n k : ℕ) (way : Option Way) → last_step outs ≡ n → arrived_by_way outs k way ≡ came_by n k way
arrived_is outs n k None e = refl
arrived_is outs n k (Some way) e = ap (λ z. arrival k way z ∷ []) e

-- an open goes on
pub traces_on : (heard : DriveNews) (n : ℕ) (m : Many) (opens : ℕ) (before : List Living) (o : Living) (behind : List Living) (way : Option Way) (records : List Out) (m' : Many) →
    m.list ≡ before ++ o ∷ behind → m'.list ≡ before ++ noted heard o ∷ behind → CallsOpen (kin_of o) way records (run_state m.graph.book []) (run_state m'.graph.book []) →
    first_close_of (own_serials (kin_of o)) records ≡ None → TracesAt n m opens records (came_by n o.speaker.number way) m' opens
traces_on heard n m opens before o behind way records m' is new call none = λ waits outs h so_far last traced fits.
    let living : h.living ≡ map kin_of before ++ kin_of o ∷ map kin_of behind = fits.living ∙ ap (map kin_of) is ∙ kins_around before o behind in
    let t = run_state m'.graph.book [] in (
      record {
        after = record h { state = t };
        traced = subst (λ z. Traced (outs ++ records) (record h { state = t }) (so_far ++ z)) (arrived_is outs n o.speaker.number way last)
            (calls outs records h so_far (map kin_of before) (map kin_of behind) (kin_of o) way t traced living
            (subst (λ z. CallsOpen (kin_of o) way records z t) (sym fits.state) call) none);
        fits = record { state = refl; living = living ∙ (sym (kins_around before (noted heard o) behind) ∙ ap (map kin_of) (sym new)); waiting = fits.waiting; numbered = fits.numbered };
      },
      last_more outs records ∙ ap (λ z. fold step_by z records) last ∙ call_no_step n o.speaker.number (own_serials (kin_of o)) (lowest_of (own_serials (kin_of o))) way records (run_state m.graph.book []) t call,
    )

-- an open ends
pub traces_end : (n : ℕ) (m : Many) (opens : ℕ) (before : List Living) (o : Living) (behind : List Living) (way : Option Way) (records : List Out) (cause : Cause) (m' : Many) →
    m.list ≡ before ++ o ∷ behind → m'.list ≡ before ++ behind → CallsOpen (kin_of o) way records (run_state m.graph.book []) (run_state m'.graph.book []) →
    first_close_of (own_serials (kin_of o)) records ≡ Some cause → ((x : ℕ) → is_one_of (objects_ids o.objects) x ≡ true → object_lives m'.graph.book x ≡ false) →
    TracesAt n m opens (records ++ ended o.speaker.number cause ∷ []) (came_by n o.speaker.number way) m' opens
traces_end n m opens before o behind way records cause m' is new call some gone = λ waits outs h so_far last traced fits.
    let living : h.living ≡ map kin_of before ++ kin_of o ∷ map kin_of behind = fits.living ∙ ap (map kin_of) is ∙ kins_around before o behind in
    let t = run_state m'.graph.book [] in
    let k = o.speaker.number in (
      record {
        after = record h { state = t; living = map kin_of before ++ map kin_of behind };
        traced = subst (λ z. Traced (outs ++ (records ++ ended k cause ∷ [])) (record h { state = t; living = map kin_of before ++ map kin_of behind }) (so_far ++ z)) (arrived_is outs n k way last)
            (ends outs records h so_far (map kin_of before) (map kin_of behind) (kin_of o) way t cause traced living
            (subst (λ z. CallsOpen (kin_of o) way records z t) (sym fits.state) call) some
            (λ x own. gone x (subst (λ z. is_one_of z x ≡ true) (own_are o) own)));
        fits = record { state = refl; living = sym (map-append kin_of before behind) ∙ ap (map kin_of) (sym new); waiting = fits.waiting; numbered = fits.numbered };
      },
      last_more outs (records ++ ended k cause ∷ []) ∙ ap (λ z. fold step_by z (records ++ ended k cause ∷ [])) last ∙ fold-append step_by n records (ended k cause ∷ [])
          ∙ call_no_step n k (own_serials (kin_of o)) (lowest_of (own_serials (kin_of o))) way records (run_state m.graph.book []) t call,
    )

-- one after another
pub traces_both : (n : ℕ) (m a b : Many) (i j k : ℕ) (rs ss : List Out) (came more : List Arrived) → TracesAt n m i rs came a j → TracesAt n a j ss more b k → TracesAt n m i (rs ++ ss) (came ++ more) b k
traces_both n m a b i j k rs ss came more f g = λ waits outs h so_far last traced fits.
    let x = f waits outs h so_far last traced fits in
    let y = g waits (outs ++ rs) x.0.after (so_far ++ came) x.1 x.0.traced x.0.fits in (
      record {
        after = y.0.after;
        traced = subst (λ z. Traced (outs ++ (rs ++ ss)) y.0.after z) (append_assoc so_far came more) (subst (λ z. Traced z y.0.after ((so_far ++ came) ++ more)) (append_assoc outs rs ss) y.0.traced);
        fits = y.0.fits;
      },
      ap last_step (sym (append_assoc outs rs ss)) ∙ y.1,
    )

-- nothing happens
pub traces_none : (n : ℕ) (m : Many) (opens : ℕ) → TracesAt n m opens [] [] m opens
traces_none n m opens = λ waits outs h so_far last traced fits. (
  record {
    after = h;
    traced = subst (λ z. Traced (outs ++ []) h z) (sym (append-nil so_far)) (subst (λ z. Traced z h so_far) (sym (append-nil outs)) traced);
    fits = fits;
  },
  ap last_step (append-nil outs) ∙ last,
)

-- after its STEP
pub traces_step : (n : ℕ) (m : Many) (opens : ℕ) (rs : List Out) (came : List Arrived) (m' : Many) (j : ℕ) → TracesAt n m opens rs came m' j →
    (waits : List GraphObject) (outs : List Out) (h : Holdings) (so_far : List Arrived) → Traced outs h so_far → FitsHoldings m opens waits h → TracesOn m opens waits (step n ∷ rs) came m' j waits outs h so_far
traces_step n m opens rs came m' j f = λ waits outs h so_far traced fits.
    let x = f waits (outs ++ step n ∷ []) h so_far (last_is_step outs n) (apart outs (step n ∷ []) h so_far traced (tt, tt)) fits in
    record { after = x.0.after; traced = subst (λ z. Traced z x.0.after (so_far ++ came)) (append_assoc outs (step n ∷ []) rs) x.0.traced; fits = x.0.fits }
