use Rattle.tilebench.proofs.commands.run_command.Goals as goal

pub returns-in-Grow : goal.returns-in-Grow
returns-in-Grow g c = rw c.in-Grow.is c.run.ensures

pub returns-in-Race : goal.returns-in-Race
returns-in-Race g c = rw c.in-Race.is c.run-in-Race.ensures

pub returns-in-Report : goal.returns-in-Report
returns-in-Report g c = rw c.in-Report.is c.run-in-Report.ensures

pub returns-in-Watch : goal.returns-in-Watch
returns-in-Watch g c = rw c.in-Watch.is c.run-in-Watch.ensures

pub returns-in-Batch : goal.returns-in-Batch
returns-in-Batch g c = rw c.in-Batch.is c.run-in-Batch.ensures

pub returns-in-Check : goal.returns-in-Check
returns-in-Check g c = rw c.in-Check.is c.run_in_blocks.ensures

pub returns-in-Replay : goal.returns-in-Replay
returns-in-Replay g c = rw c.in-Replay.is c.run_in_blocks-in-Replay.ensures

pub returns-in-Schedule : goal.returns-in-Schedule
returns-in-Schedule g c = rw c.in-Schedule.is c.run-in-Schedule.ensures

pub returns-in-Format : goal.returns-in-Format
returns-in-Format g c = rw c.in-Format.is c.run-in-Format.ensures

pub returns-in-Upgrade : goal.returns-in-Upgrade
returns-in-Upgrade g c = rw c.in-Upgrade.is c.run-in-Upgrade.ensures

pub returns-in-Turing : goal.returns-in-Turing
returns-in-Turing g c = rw c.in-Turing.is c.run-in-Turing.ensures

pub returns-in-Quadrant : goal.returns-in-Quadrant
returns-in-Quadrant g c = rw c.in-Quadrant.is c.run-in-Quadrant.ensures

pub returns-in-Picture : goal.returns-in-Picture
returns-in-Picture g c = rw c.in-Picture.is c.run_in_blocks-in-Picture.ensures

pub returns-in-Certify : goal.returns-in-Certify
returns-in-Certify g c = rw c.in-Certify.is c.run_in_blocks-in-Certify.ensures

pub returns-in-Verify : goal.returns-in-Verify
returns-in-Verify g c = rw c.in-Verify.is c.run-in-Verify.ensures

pub returns-in-Counter : goal.returns-in-Counter
returns-in-Counter g c = rw c.in-Counter.is c.run-in-Counter.ensures

pub returns-in-Load : goal.returns-in-Load
returns-in-Load g c = rw c.in-Load.is c.run-in-Load.ensures
