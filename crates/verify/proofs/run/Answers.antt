use Rattle.std.proofs.Common.{◌≡◌, length, rules}
use Rattle.std.specs.Io.KnownBytes.{Appends}
use Rattle.verify.specs.Told.{most_read}
use Rattle.verify.proofs.Running.{text_put, written}
use Rattle.verify.proofs.run.Goals as goal

pub returns : goal.returns
returns g c =
    let text = text_put _ _ _ _ c.tell-k.ensures.out_after c.tell-k.ensures.value (search rules) in
    let room : most_read ≡ length c.read_full.new.buf = search rules in
    let contents = g.W.Write.contents in
    written _ _ (Appends (contents c.args.writer.now) (contents c.write_all.new.self)) _ _ _ c.write_all.ensures.bytes text room c.in_ok-n.ensures.beginning
