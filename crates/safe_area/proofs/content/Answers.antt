-- `content` passes on numbers of the size and of the edges that count, which are on the scale.
use Rattle.safe_area.proofs.Scale.{read_on_scale, sizes_and_edges}
use Rattle.safe_area.proofs.content.Goals as goal

pub span-x-requires : goal.span-x-requires
span-x-requires c =
    let on = sizes_and_edges c.args.size c.args.inset_size c.args.edges c.requires c.current_edges.ensures in
    (read_on_scale _ 0 on.0, read_on_scale _ 0 on.1, read_on_scale _ 2 on.1)

pub span-y-requires : goal.span-y-requires
span-y-requires c =
    let on = sizes_and_edges c.args.size c.args.inset_size c.args.edges c.requires c.current_edges.ensures in
    (read_on_scale _ 1 on.0, read_on_scale _ 1 on.1, read_on_scale _ 3 on.1)
