-- `judges::judge` meets its contract: each command's judgement sees the part of the state that its cascade reads, so the ruling is that of the whole state. Assumes nothing.
use Rattle.judges.specs.CodeRulings.{ruled-open, ruled-disconnect, ruled-create, ruled-destroy, ruled-release, ruled-transfer, ruled-sent, ruled-unsent, ruled-receive, ruled-quota, ruled-holders, ruled-seed}
use Rattle.rings.specs.Lent.{viewed}
use Rattle.rings.specs.Rings.{rings_of}
use Rattle.judges.proofs.judge.Goals as goal

pub returns-in-Open : goal.returns-in-Open
returns-in-Open c = ruled-open c.args.ps.now c.args.ns.now c.args.hs.now c.args.cs.now c.args.frame.now (viewed c.args.rings.now) c.args.seeds.now c.in-Open.is c.judge_open.ensures c.plain.ensures

pub returns-in-Disconnect : goal.returns-in-Disconnect
returns-in-Disconnect c = ruled-disconnect c.args.ps.now c.args.ns.now c.args.hs.now c.args.cs.now c.args.frame.now (viewed c.args.rings.now) c.args.seeds.now c.in-Disconnect.is c.judge_disconnect.ensures c.plain-in-Disconnect.ensures

pub returns-in-Create : goal.returns-in-Create
returns-in-Create c = ruled-create c.args.ps.now c.args.ns.now c.args.hs.now c.args.cs.now c.args.frame.now (viewed c.args.rings.now) c.args.seeds.now c.in-Create.is c.judge_create.ensures c.plain-in-Create.ensures

pub returns-in-Destroy : goal.returns-in-Destroy
returns-in-Destroy c = ruled-destroy c.args.ps.now c.args.ns.now c.args.hs.now c.args.cs.now c.args.frame.now (viewed c.args.rings.now) c.args.seeds.now c.in-Destroy.is c.judge_destroy.ensures c.plain-in-Destroy.ensures

pub returns-in-Release : goal.returns-in-Release
returns-in-Release c = ruled-release c.args.ps.now c.args.ns.now c.args.hs.now c.args.cs.now c.args.frame.now (viewed c.args.rings.now) c.args.seeds.now c.in-Release.is c.judge_release.ensures c.plain-in-Release.ensures

pub returns-in-Transfer : goal.returns-in-Transfer
returns-in-Transfer c = ruled-transfer c.args.ps.now c.args.ns.now c.args.hs.now c.args.cs.now c.args.frame.now (viewed c.args.rings.now) c.args.seeds.now c.in-Transfer.is c.judge_transfer.ensures c.plain-in-Transfer.ensures

pub returns-in-Ok : goal.returns-in-Ok
returns-in-Ok c = ruled-sent c.args.ps.now c.args.ns.now c.args.hs.now c.args.cs.now c.args.frame.now (viewed c.args.rings.now) c.args.seeds.now c.in-Send.is c.judge_send.ensures c.in-Ok.is

pub returns-in-Err : goal.returns-in-Err
returns-in-Err c = ruled-unsent c.args.ps.now c.args.ns.now c.args.hs.now c.args.cs.now c.args.frame.now (viewed c.args.rings.now) c.args.seeds.now c.in-Send.is c.judge_send.ensures c.in-Err.is c.plain-in-Err.ensures

pub returns-in-Receive : goal.returns-in-Receive
returns-in-Receive c = ruled-receive c.args.ps.now c.args.ns.now c.args.hs.now c.args.cs.now c.args.frame.now (viewed c.args.rings.now) c.args.seeds.now c.in-Receive.is c.judge_receive.ensures c.plain-in-Receive.ensures

pub returns-in-Quota : goal.returns-in-Quota
returns-in-Quota c = ruled-quota c.args.ps.now c.args.ns.now c.args.hs.now c.args.cs.now c.args.frame.now (viewed c.args.rings.now) c.args.seeds.now c.in-Quota.is c.judge_quota.ensures c.plain-in-Quota.ensures

pub returns-in-Holders : goal.returns-in-Holders
returns-in-Holders c = ruled-holders c.args.ps.now c.args.ns.now c.args.hs.now c.args.cs.now c.args.frame.now (viewed c.args.rings.now) c.args.seeds.now c.in-Holders.is c.judge_holders.ensures c.plain-in-Holders.ensures

pub returns-in-ShowSeed : goal.returns-in-ShowSeed
returns-in-ShowSeed c = ruled-seed c.args.ps.now c.args.ns.now c.args.hs.now c.args.cs.now c.args.frame.now (viewed c.args.rings.now) c.args.seeds.now c.in-ShowSeed.is c.judge_seed.ensures c.plain-in-ShowSeed.ensures
