-- `sheet_line` has the rounded corner and the differences of rounded edges, and these are in range.
use Rattle.tenths.proofs.Floors.{Small}
use Rattle.lines.specs.Line.{line_of}
use Rattle.lines.proofs.LineLaws.{most_edge, in_limit, zero_in_range, line_numbers}
use Rattle.lines.proofs.Numbers.{difference_fits, edge_few, corner_is, span_is}
use Rattle.lines.proofs.sheet_line.Goals as goal

pub edge-x-requires : goal.edge-x-requires
edge-x-requires c = let p = c.requires in search (in_limit, zero_in_range)

pub edge-y-requires : goal.edge-y-requires
edge-y-requires c = let p = c.requires in search (in_limit, zero_in_range)

pub edge-right-requires : goal.edge-right-requires
edge-right-requires c = let p = c.requires in search in_limit

pub edge-lower-requires : goal.edge-lower-requires
edge-lower-requires c = let p = c.requires in search in_limit

pub overflow_sub-result : goal.overflow_sub-result
overflow_sub-result c =
    let x_few : Small most_edge c.edge-x.result = edge_few c.edge-x.ensures c.requires.x zero_in_range in
    let right_few : Small most_edge c.edge-right.result = let p = c.requires in edge_few c.edge-right.ensures p.x p.w in
    difference_fits x_few right_few

pub overflow_sub-result-2 : goal.overflow_sub-result-2
overflow_sub-result-2 c =
    let y_few : Small most_edge c.edge-y.result = edge_few c.edge-y.ensures c.requires.y zero_in_range in
    let lower_few : Small most_edge c.edge-lower.result = let p = c.requires in edge_few c.edge-lower.ensures p.y p.h in
    difference_fits y_few lower_few

pub returns-clause-line : goal.returns-clause-line
unfolding line_of
returns-clause-line c =
    let p = c.requires in
    let x = c.edge-x.ensures in
    let y = c.edge-y.ensures in
    let right = c.edge-right.ensures in
    let lower = c.edge-lower.ensures in
    rw (span_is p.x p.w x right, span_is p.y p.h y lower, corner_is p.x p.w x right, corner_is p.y p.h y lower)

pub returns-clause-printable : goal.returns-clause-printable
unfolding line_of
returns-clause-printable c =
    let p = c.requires in
    let x = c.edge-x.ensures in
    let y = c.edge-y.ensures in
    let right = c.edge-right.ensures in
    let lower = c.edge-lower.ensures in
    rw (span_is p.x p.w x right, span_is p.y p.h y lower, corner_is p.x p.w x right, corner_is p.y p.h y lower) (line_numbers c.args.name.now c.args.r p)
