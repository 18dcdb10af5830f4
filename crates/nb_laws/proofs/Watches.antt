-- The last first try of an open, among what concerns its tries.
use Rattle.std.proofs.Common.{◌≡◌, ℕ, true, List, [], ◌∷◌, ◌++◌, Option, Some, None, refl, sym, ◌∙◌, ap, subst, append_assoc, append-nil, filter, if◌then◌else◌}
use Rattle.std.specs.List.{flat_map, fold, AllByRecursion}
use Rattle.std.specs.Option.{option_map_or, is_some}
use Rattle.std.proofs.lemmas.List.{map-append}
use Rattle.std.proofs.lemmas.List.Concat.{flat_map-append}
use Rattle.nb_retry.specs.declared.retry.Due.{Due}
use Rattle.nb_retry.specs.declared.retry.Due.TheVariants.{Not, Again, Over}
use Rattle.nb_retry.specs.Calls.{fires}
use Rattle.nb_retry.specs.Plans.{Asked, asked_at}
use Rattle.nb_terms.specs.declared.acts.Acts.{Acts}
use Rattle.nb_terms.specs.declared.cause.Cause.{Cause}
use Rattle.nb_tftp.specs.Asks.{Begun}
use Rattle.nb_tftp.proofs.TryLaws.{IsFirst, first_try}
use Rattle.nb_tftp.specs.Received.{Received}
use Rattle.nb_tftp.specs.History.{Call, came, ticked, Entry, entry, Watch, watch_from, watched, watched_call, EachEntry}
use Rattle.nb_tftp.specs.Sentences.{AsksSo}
use Rattle.nb_tftp.specs.Endings.{moments}
use Rattle.nb_laws.specs.Lists.{Mark, passed, tries, heard, times_of, tries_of, heard_of, times_in, tries_in, heard_in}
use Rattle.nb_laws.specs.Agreement.{try_marks, entry_marks}

abbrev pub said_try : ℕ → Due → List (ℕ × ℕ)
said_try at Not = []
said_try at (Again n) = (n, at) ∷ []
said_try at Over = []

abbrev pub said_tries : List Asked → List (ℕ × ℕ)
said_tries calls = flat_map (λ c. said_try c.at c.said) calls

-- the marks end with a first try, at the watch's time, and what the watch has seen since
pub record Watched (ms : List Mark) (w : Watch) : Type 0 where
  pub earlier : List Mark
  pub rest : List Mark
  pub all : ms ≡ earlier ++ tries 1 w.since ∷ rest
  pub times : times_in rest ≡ moments w
  pub tried : tries_in rest ≡ said_tries w.times
  pub news : heard_in rest ≡ w.heard

more_all : (ms earlier rest more : List Mark) (first : Mark) → ms ≡ earlier ++ first ∷ rest → ms ++ more ≡ earlier ++ first ∷ (rest ++ more)
more_all ms earlier rest more first e = ap (λ z. z ++ more) e ∙ append_assoc earlier (first ∷ rest) more

ticks_on : (ms : List Mark) (w : Watch) (now : ℕ) (try : Option ℕ) (d : Due) → said_try now d ≡ tries_in (try_marks now try) → Watched ms w →
    Watched (ms ++ passed now ∷ try_marks now try) (record w { times = w.times ++ asked_at now d ∷ [] })
ticks_on ms w now try d e h = record {
  earlier = h.earlier;
  rest = h.rest ++ passed now ∷ try_marks now try;
  all = more_all ms h.earlier h.rest (passed now ∷ try_marks now try) (tries 1 w.since) h.all;
  times = flat_map-append times_of h.rest (passed now ∷ try_marks now try) ∙ ap (λ z. z ++ now ∷ times_in (try_marks now try)) h.times
      ∙ ap (λ z. moments w ++ now ∷ z) (no_times try) ∙ sym (map-append (λ c. c.at) w.times (asked_at now d ∷ []));
  tried = flat_map-append tries_of h.rest (passed now ∷ try_marks now try) ∙ ap (λ z. z ++ tries_in (try_marks now try)) h.tried
      ∙ ap (λ z. said_tries w.times ++ z) (sym e ∙ sym (append-nil (said_try now d)))
      ∙ sym (flat_map-append (λ (c : Asked). said_try c.at c.said) w.times (asked_at now d ∷ []));
  news = flat_map-append heard_of h.rest (passed now ∷ try_marks now try) ∙ ap (λ z. heard_in h.rest ++ z) (no_news try) ∙ append-nil (heard_in h.rest) ∙ h.news;
}
  where
    no_times : (t : Option ℕ) → times_in (try_marks now t) ≡ []
    no_times None = refl
    no_times (Some n) = refl

    no_news : (t : Option ℕ) → heard_in (try_marks now t) ≡ []
    no_news None = refl
    no_news (Some n) = refl

said_same : (now : ℕ) (try : Option ℕ) (over : Option Cause) → said_try now (option_map_or (λ n. Again n) try (if is_some over then Over else Not)) ≡ tries_in (try_marks now try)
said_same now (Some n) over = refl
said_same now None None = refl
said_same now None (Some cause) = refl

comes_on : (ms : List Mark) (w : Watch) (m : Received) (now : ℕ) (try : Option ℕ) → IsFirst try → Watched ms w →
    Watched (ms ++ heard m ∷ try_marks now try) (if is_some try then watch_from now else record w { heard = w.heard ++ m ∷ [] })
comes_on ms w m now None first h = record {
  earlier = h.earlier;
  rest = h.rest ++ heard m ∷ [];
  all = more_all ms h.earlier h.rest (heard m ∷ []) (tries 1 w.since) h.all;
  times = flat_map-append times_of h.rest (heard m ∷ []) ∙ append-nil (times_in h.rest) ∙ h.times;
  tried = flat_map-append tries_of h.rest (heard m ∷ []) ∙ append-nil (tries_in h.rest) ∙ h.tried;
  news = flat_map-append heard_of h.rest (heard m ∷ []) ∙ ap (λ z. z ++ m ∷ []) h.news;
}
comes_on ms w m now (Some n) first h = record {
  earlier = ms ++ heard m ∷ [];
  rest = [];
  all = ap (λ k. ms ++ heard m ∷ tries k now ∷ []) first ∙ sym (append_assoc ms (heard m ∷ []) (tries 1 now ∷ []));
  times = refl;
  tried = refl;
  news = refl;
}

-- a datagram makes a first try alone
abbrev FirstBy : Call → Acts → Type 0
FirstBy (came m now) acts = IsFirst acts.tried
FirstBy (ticked now) acts = Unit {0}

abbrev pub TriesFirst : Entry → Type 0
TriesFirst e = FirstBy e.call e.acts

one_on : (call : Call) (acts : Acts) (ms : List Mark) (w : Watch) → FirstBy call acts → Watched ms w → Watched (ms ++ entry_marks (entry call acts)) (watched_call w call acts)
one_on (came m now) acts ms w first h = comes_on ms w m now acts.tried first h
one_on (ticked now) acts ms w first h = ticks_on ms w now acts.tried _ (said_same now acts.tried acts.over) h

all_on : (h : List Entry) (ms : List Mark) (w : Watch) → AllByRecursion TriesFirst h → Watched ms w → Watched (ms ++ flat_map entry_marks h) (fold (λ w (e : Entry). watched_call w e.call e.acts) w h)
all_on [] ms w each is = subst (λ z. Watched z w) (sym (append-nil ms)) is
all_on (e ∷ h) ms w each is =
    subst (λ z. Watched z (fold (λ w (e : Entry). watched_call w e.call e.acts) (watched_call w e.call e.acts) h)) (append_assoc ms (entry_marks e) (flat_map entry_marks h))
    (all_on h (ms ++ entry_marks e) (watched_call w e.call e.acts) each.1 (one_on e.call e.acts ms w each.0 is))

pub watch_of : (start : ℕ) (h : List Entry) → AllByRecursion TriesFirst h → Watched (tries 1 start ∷ flat_map entry_marks h) (watched start h)
watch_of start h each = all_on h (tries 1 start ∷ []) (watch_from start) each (record { earlier = []; rest = []; all = refl; times = refl; tried = refl; news = refl })

-- so it does in a transfer
first_so : (b : Begun) (before : List Entry) (call : Call) (acts : Acts) → AsksSo b before (entry call acts) → FirstBy call acts
first_so b before (came m now) acts so = first_try true b before m now acts so
first_so b before (ticked now) acts so = tt

each_first : (b : Begun) (before h : List Entry) → EachEntry (AsksSo b) before h → AllByRecursion TriesFirst h
each_first b before [] each = tt
each_first b before (e ∷ h) each = (first_so b before e.call e.acts each.0, each_first b (before ++ e ∷ []) h each.1)

pub watch_told : (b : Begun) (start : ℕ) (h : List Entry) → EachEntry (AsksSo b) [] h → Watched (tries 1 start ∷ flat_map entry_marks h) (watched start h)
watch_told b start h each = watch_of start h (each_first b [] h each)

one_filtered : (at : ℕ) (said : Due) (calls : List Asked) → said_tries (filter (λ x. fires x.said) calls) ≡ said_tries calls → said_tries (filter (λ x. fires x.said) (asked_at at said ∷ calls)) ≡ said_tries (asked_at at said ∷ calls)
one_filtered at Not calls e = e
one_filtered at (Again n) calls e = ap (λ z. (n, at) ∷ z) e
one_filtered at Over calls e = e

filter_tries : (calls : List Asked) → said_tries (filter (λ c. fires c.said) calls) ≡ said_tries calls
filter_tries [] = refl
filter_tries (c ∷ calls) = one_filtered c.at c.said calls (filter_tries calls)

pub tries_fired : (calls fired : List Asked) → filter (λ c. fires c.said) calls ≡ fired → said_tries calls ≡ said_tries fired
tries_fired calls fired e = sym (filter_tries calls) ∙ ap said_tries e
