-- Where the three are as they were, so is what they stand for.
use Rattle.std.proofs.Common.{◌≡◌, ℕ, List, sym, subst}
use Rattle.nb_conns.specs.declared.conn_ask.ConnAsk.{ConnAsk}
use Rattle.nb_graph.specs.Lived.{ObjectStands}
use Rattle.nb_graph.specs.Whole.{Objects}
use Rattle.nb_nodes.specs.declared.obj.Obj.{Obj}
use Rattle.nb_nodes.specs.Standing.{ObjStands}
use Rattle.nb_streams.specs.Flows.{TcpCall}
use Rattle.nb_webchains.specs.declared.web_chain.WebChain.{WebChain}
use Rattle.nb_webchains.specs.WebChains.{web_graph}
use Rattle.nb_webtalks.specs.TalkStands.{StandsForTalk}

pub same_three : (a : ConnAsk) (start : ℕ) (calls : List TcpCall) (c : WebChain) (g h : Objects Obj) → web_graph c h ≡ web_graph c g → StandsForTalk a start calls c g → StandsForTalk a start calls c h
same_three a start calls c g h same s = record {
  above = s.above;
  between = s.between;
  below = s.below;
  fetch = subst (λ z. ObjectStands ObjStands z c.fetch.0 s.above) (sym same) s.fetch;
  web = subst (λ z. ObjectStands ObjStands z c.web.0 s.between) (sym same) s.web;
  conn = subst (λ z. ObjectStands ObjStands z c.conn.0 s.below) (sym same) s.conn;
  gathering = s.gathering;
  took = s.took;
  called = s.called;
  unended = s.unended;
}
