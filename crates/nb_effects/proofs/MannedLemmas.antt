-- The nodes stand beside the book's objects.
use Rattle.std.proofs.Common.{◌≡◌, ℕ, ◌<◌, ◌≤◌, true, List, [], ◌∷◌, ◌++◌, length, set, get_or, length-append, length-take, length-drop, ap, sym, ◌∙◌, arith}
use Rattle.std.specs.List.{remove}
use Rattle.std.proofs.Math.Seq.{map-set_same}
use Rattle.std.proofs.lemmas.List.{map-append, length-map}
use Rattle.nb_ledger.specs.Ledger.{Ledger, object_lives, ranks, place}
use Rattle.nb_ledger.specs.Changes.{SameObjects, Adds, Removes}
use Rattle.nb_ledger.proofs.PlaceLemmas.{live-stands}
use Rattle.nb_ledger.proofs.ChangeLemmas.{map-remove}
use Rattle.nb_effects.specs.Whole.{IsManned}

-- as many ranks as objects
pub length-ranks : (l : Ledger) → length (ranks l) ≡ length l.objects
unfolding ranks
length-ranks l = length-map l.objects (λ o. o.rank)

-- as many nodes as objects
pub manned-length : {N : Type 0} {rank_of : N → ℕ} {l : Ledger} {nodes : List N} {cap : ℕ} → IsManned rank_of l nodes cap → length nodes ≡ length l.objects
manned-length {N} {rank_of} {l} {nodes} {cap} m = sym (length-map nodes rank_of) ∙ sym (ap length m.same_ranks) ∙ length-ranks l

-- the node of a live object
pub manned-place : {N : Type 0} {rank_of : N → ℕ} {l : Ledger} {nodes : List N} {cap : ℕ} (x : ℕ) → IsManned rank_of l nodes cap → object_lives l x ≡ true → place l x < length nodes
manned-place {N} {rank_of} {l} {nodes} {cap} x m h = let e = manned-length m in let s = live-stands l x h in omega arith

-- a list without one of its elements
pub removed-length : (xs : List ℕ) (i : ℕ) → length (remove xs i) ≤ length xs
removed-length xs i = simp (length-append, length-take, length-drop) (omega arith)

-- after a change that keeps the objects
pub IsManned-same : {N : Type 0} {rank_of : N → ℕ} {old new : Ledger} {nodes : List N} {cap : ℕ} → SameObjects old new → IsManned rank_of old nodes cap → IsManned rank_of new nodes cap
IsManned-same {N} {rank_of} {old} {new} {nodes} {cap} s m = record {
  same_ranks = s.same_ranks ∙ m.same_ranks;
  room = let e = s.same_room in let r = m.room in omega arith;
  in_room = let e = s.same_room in let r = m.in_room in let a = length-ranks new in let b = length-ranks old in let c = ap length s.same_ranks in omega arith;
}

-- after an object and its node are taken out
pub IsManned-remove : {N : Type 0} {rank_of : N → ℕ} {old new : Ledger} {nodes : List N} {cap x : ℕ} → Removes old new x → IsManned rank_of old nodes cap → IsManned rank_of new (remove nodes (place old x)) cap
IsManned-remove {N} {rank_of} {old} {new} {nodes} {cap} {x} s m = record {
  same_ranks = s.ranks_set ∙ ap (λ r. remove r (place old x)) m.same_ranks ∙ sym (map-remove rank_of nodes (place old x));
  room = let e = s.same_room in let r = m.room in omega arith;
  in_room = let e = s.same_room in let r = m.in_room in let a = length-ranks new in let b = length-ranks old in let c = ap length s.ranks_set in let d = removed-length (ranks old) (place old x) in omega arith;
}

-- after an object and its node are put at the end
pub IsManned-add : {N : Type 0} {rank_of : N → ℕ} {old new : Ledger} {nodes : List N} {cap big x : ℕ} (n : N) → Adds old new x (rank_of n) → cap ≤ big → length old.objects < old.room → IsManned rank_of old nodes cap → IsManned rank_of new (nodes ++ n ∷ []) big
IsManned-add {N} {rank_of} {old} {new} {nodes} {cap} {big} {x} n s le fits m = record {
  same_ranks = s.ranks_set ∙ ap (λ r. r ++ rank_of n ∷ []) m.same_ranks ∙ sym (map-append rank_of nodes (n ∷ []));
  room = let e = s.same_room in let r = m.room in omega arith;
  in_room = let e = s.same_room in let a = length-ranks new in let b = length-ranks old in let c = ap length s.ranks_set in let d = length-append (ranks old) (rank_of n ∷ []) in omega arith;
}

-- after a node is entered, which keeps its rank
pub IsManned-node : {N : Type 0} {rank_of : N → ℕ} {l : Ledger} {nodes : List N} {cap : ℕ} (i : ℕ) (n d : N) → i < length nodes → d ≡ get_or nodes i d → rank_of n ≡ rank_of d → IsManned rank_of l nodes cap → IsManned rank_of l (set nodes i n) cap
IsManned-node {N} {rank_of} {l} {nodes} {cap} i n d h e r m = record {
  same_ranks = m.same_ranks ∙ sym (map-set_same rank_of nodes i n d (r ∙ ap rank_of e));
  room = m.room;
  in_room = m.in_room;
}
