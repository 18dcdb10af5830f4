-- Each of the three is one of them, and none of them begins in a call.
use Rattle.std.proofs.Common.{◌≡◌, ℕ, true, List, [], ◌∷◌}
use Rattle.std.specs.List.{AllByRecursion}
use Rattle.nb_graph.specs.Deeds.{Deed, writes, begins, calls, turns}
use Rattle.nb_graph.proofs.MarkLemmas.{BeginsNone}
use Rattle.nb_frames.specs.Frames.{is_one_of}
use Rattle.nb_frames.proofs.WithinLemmas.{IsDeedWithin}
use Rattle.nb_closings.proofs.Joining.{first_in, later_in}
use Rattle.nb_webchains.specs.declared.web_chain.WebChain.{WebChain}
use Rattle.nb_webchains.specs.WebChains.{web_ids}

pub fetch_in : (c : WebChain) → is_one_of (web_ids c) c.fetch.0 ≡ true
fetch_in c = first_in c.fetch.0 (c.web.0 ∷ c.conn.0 ∷ [])

pub web_in : (c : WebChain) → is_one_of (web_ids c) c.web.0 ≡ true
web_in c = later_in c.fetch.0 (c.web.0 ∷ c.conn.0 ∷ []) c.web.0 (first_in c.web.0 (c.conn.0 ∷ []))

pub conn_in : (c : WebChain) → is_one_of (web_ids c) c.conn.0 ≡ true
conn_in c = later_in c.fetch.0 (c.web.0 ∷ c.conn.0 ∷ []) c.conn.0 (later_in c.web.0 (c.conn.0 ∷ []) c.conn.0 (first_in c.conn.0 []))

-- no object begins among deeds of some that make none
pub begins_none : {N L : Type 0} (ids : List ℕ) (x : ℕ) (ds : List (Deed N L)) → AllByRecursion (IsDeedWithin (is_one_of ids)) ds → BeginsNone x ds
begins_none ids x [] h = tt
begins_none ids x (writes e ∷ ds) h = begins_none ids x ds h.1
begins_none ids x (begins y n ∷ ds) h = absurd h.0
begins_none ids x (calls y e ∷ ds) h = begins_none ids x ds h.1
begins_none ids x (turns u ∷ ds) h = begins_none ids x ds h.1
