use Rattle.nb_client.proofs.site.Site.begin_drop.Goals as goal

pub returns : goal.returns
returns c = record { between = c.put_begun.new.log; command = c.put_begun.ensures; drops = c.in_ok-drop_drive.ensures; script = c.enter.ensures }
