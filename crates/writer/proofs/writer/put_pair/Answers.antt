-- `put_pair` meets its contract: the two numbers stand one after the other.
use Rattle.writer.specs.Laws.Filling.{pair-put}
use Rattle.writer.proofs.writer.put_pair.Goals as goal

pub returns : goal.returns
returns c =
    let r = c.requires in
    pair-put _ _ r.out_long r.offset_small r.len_small c.to_le_bytes.ensures c.copy.ensures c.to_le_bytes-2.ensures
    c.copy-2.ensures
